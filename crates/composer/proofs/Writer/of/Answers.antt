-- `Writer::of` meets its contract: the prefixes have room, and what composing leaves is what the flat table is written from.
-- Assumes nothing.
use borrow.Author.Rules.{rules}
use native.Mathlib.Omega.{arith}
use mathlib.Core.Path.{◌∙◌, sym}
use Rattle.composer.proofs.Handed.{instances-room, prefix-room, writable}
use Rattle.composer.proofs.Writer.of.Goals as goal

pub fill-prefixes-requires : goal.fill-prefixes-requires
fill-prefixes-requires c =
    let C = c.args.c.now.composed in
    (C.targeted.planted, (prefix-room C (search (rules, arith)), instances-room C (search (rules, arith))))

pub invariant_of-result : goal.invariant_of-result
invariant_of-result c = record { writable = rw (c.of.ensures.0, c.of.ensures.1.0) (writable c.args.c.now.composed); alike = c.fill-prefixes.ensures ∙ sym c.of.ensures.0 }
