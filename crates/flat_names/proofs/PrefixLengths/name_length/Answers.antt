-- `PrefixLengths::name_length` meets its contract: the prefixes, and the name behind them.
-- Assumes nothing.
use native.Mathlib.Omega.{arith}
use Rattle.recipe.specs.Records.{recipe}
use Rattle.recipe.proofs.Definitions.{name-short}
use Rattle.flat_names.proofs.Puts.{name-at, name-long}
use Rattle.flat_names.proofs.PrefixLengths.name_length.Goals as goal

pub name_length-requires : goal.name_length-requires
name_length-requires c = omega (arith, (name-at _ c.requires.0 c.args.i c.args.q c.requires.1.0 c.requires.1.1).inside)

pub overflow_add-result : goal.overflow_add-result
overflow_add-result c =
    let s = recipe c.args.self.now.source.now in
    omega (arith, c.number_at.ensures, c.args.self.now.measured.each c.args.i c.requires.1.0, (name-at s c.requires.0 c.args.i c.args.q c.requires.1.0 c.requires.1.1).short, c.name_length.ensures, name-short s c.args.q, c.requires.0.narrow)

pub returns : goal.returns
returns c = name-long _ c.requires.0 c.args.q c.args.self.now.measured c.requires.1.0 c.requires.1.1 c.number_at.ensures c.name_length.ensures
