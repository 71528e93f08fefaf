-- `targets::resolve_port` and `targets::resolve_reference` meet their contracts: what is kept, or the record that is named and, if it is a port, what that names.
-- Assumes nothing.
use mathlib.Core.Path.{ap, refl}
use mathlib.Core.Bool.{not}
use native.Mathlib.Omega.{arith}
use Rattle.shadow.proofs.Links.{link-none, link-some}
use Rattle.targets.proofs.Remembering.{element-answers, named-asks, none_named, offset-asks, port-answers, port-falls, port-none, port-requires, row_of}
use Rattle.targets.proofs.+resolve_port_resolve_reference.Goals as goal

pub resolve_port-link-requires : goal.resolve_port-link-requires
resolve_port-link-requires t c = omega (arith, row_of c.requires)

pub resolve_reference-link-requires : goal.resolve_reference-link-requires
resolve_reference-link-requires t c = omega (arith, row_of c.requires)

pub resolve_reference-returns-in_default : goal.resolve_reference-returns-in_default
resolve_reference-returns-in_default t c = none_named c.requires refl (link-none c.link.ensures.0 c.in_default.is)

pub resolve_reference-offset_of-f-requires : goal.resolve_reference-offset_of-f-requires
resolve_reference-offset_of-f-requires t c = offset-asks c.requires

pub resolve_reference-bounds-s-x : goal.resolve_reference-bounds-s-x
resolve_reference-bounds-s-x t c =
    let n = link-some c.link.ensures.0 c.in-Some.is in
    (named-asks c.requires n.0 n.2).1

pub resolve_reference-cell-g-requires : goal.resolve_reference-cell-g-requires
resolve_reference-cell-g-requires t c =
    let n = link-some c.link.ensures.0 c.in-Some.is in
    omega (arith, (named-asks c.requires n.0 n.2).0)

pub resolve_reference-keep_target-requires : goal.resolve_reference-keep_target-requires
resolve_reference-keep_target-requires t c =
    (omega (arith, row_of c.requires), (rw c.in-Some.is at c.link.ensures.1, c.add_numbers.ensures.0))

pub resolve_reference-returns-then-s-x : goal.resolve_reference-returns-then-s-x
resolve_reference-returns-then-s-x t c =
    let n = link-some c.link.ensures.0 c.in-Some.is in
    element-answers c.requires n.0 n.2 c.offset_of-f.ensures c.if-s-x.true c.cell-g.ensures.0 c.add_numbers.ensures.1 c.keep_target.ensures

pub resolve_reference-resolve_port-requires : goal.resolve_reference-resolve_port-requires
resolve_reference-resolve_port-requires t c =
    let n = link-some c.link.ensures.0 c.in-Some.is in
    let port = c.if-s-x.false in
    (omega (arith, port-falls c.requires n.0 n.2 port), port-requires c.requires n.0 n.2 port)

pub resolve_reference-returns-then-not-resolve_port : goal.resolve_reference-returns-then-not-resolve_port
resolve_reference-returns-then-not-resolve_port t c =
    let n = link-some c.link.ensures.0 c.in-Some.is in
    port-none c.requires n.0 n.2 c.if-s-x.false c.resolve_port.ensures (ap not c.if-not-resolve_port.true)

pub resolve_reference-keep_target-requires-2 : goal.resolve_reference-keep_target-requires-2
resolve_reference-keep_target-requires-2 t c =
    (omega (arith, row_of c.requires, c.resolve_port.ensures.kept.long), (c.cell-place.ensures.1, c.add_numbers-2.ensures.0))

pub resolve_reference-returns : goal.resolve_reference-returns
resolve_reference-returns t c =
    let n = link-some c.link.ensures.0 c.in-Some.is in
    port-answers c.requires n.0 n.2 c.if-s-x.false c.resolve_port.ensures (ap not c.if-not-resolve_port.false) c.offset_of-f.ensures c.cell-place.ensures.0 c.cell-num.ensures.0 c.add_numbers-2.ensures.1 c.keep_target-2.ensures
