-- The recipe of a tree, and of what is known without its instances. Assumes nothing.
use Rattle.recipe.specs.Records.{Recipe, recipe}
use Rattle.targets.specs.declared.Aims.{Aims}
use Rattle.targets.specs.declared.Tree.{Tree}

abbrev pub recipe_of : Tree → Recipe
recipe_of t = recipe t.source.now

abbrev pub aimed_recipe : Aims → Recipe
aimed_recipe a = recipe a.source.now
