-- What whoever counts the survivors knows of the elements of the tree, and what the writer of the flat table knows besides.
-- Assumes nothing.
use Rattle.std.specs.Prelude.{ℕ, ◌+◌, ◌*◌, ◌≤◌, get_or, length, unwrap_or, true, List, ◌≡◌, None}
use Rattle.names.specs.Lists.{In}
use Rattle.recipe.specs.Definitions.{element_in}
use Rattle.recipe.specs.Reading.{fault₅}
use Rattle.recipe.specs.Records.{Recipe, is_element, parent_field, places}
use Rattle.shadow.specs.Shadow.{Shadowed}
use Rattle.tree.specs.Faults.{fault₇}
use Rattle.tree.specs.Tree.{tree_elements}
use Rattle.elements.specs.Columns.{ElementRows, Gones}
use Rattle.references.specs.Ends.{Ends}
use Rattle.flat_names.specs.Rows.{Naming}

-- row 7 does not apply, and each element has a row, by its number, which says whether it is gone
pub record Fated (s : Recipe) (el : List ℕ) (elems : ℕ) : Type 0 where
  pub row₇ : fault₇ s ≡ None
  pub count : elems ≡ length (tree_elements s)
  pub room : 5 * length (tree_elements s) ≤ length el
  pub gones : Gones s el

-- nor do the rows that naming asks of, nor row 5; the rows of the elements say where they are, and where the chains from the references of survivors end; the shadow has the parents
pub record Writable (s : Recipe) (t el : List ℕ) : Type 0 where
  pub naming : Naming s
  pub row₅ : fault₅ s ≡ None
  pub shadowed : Shadowed s t
  pub parents : (e : ℕ) → In e (places s) → is_element s e ≡ true → get_or t (e + 3) 0 ≡ unwrap_or (element_in s e (parent_field s e)) 0
  pub elements : ElementRows s el
  pub ends : Ends s el
