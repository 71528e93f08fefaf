-- The recipe of chains, and of a tree whose factors can be judged. Assumes nothing.
use Rattle.recipe.specs.Records.{Recipe, recipe}
use Rattle.factor_ends.specs.declared.Chains.{Chains}
use Rattle.factor_ends.specs.declared.FactorTree.{FactorTree}

abbrev pub chained_recipe : Chains → Recipe
chained_recipe c = recipe c.aims.source.now

abbrev pub factored_recipe : FactorTree → Recipe
factored_recipe t = chained_recipe t.chains
