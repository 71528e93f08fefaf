-- Where the elements of the tree are, that the writer of the flat table names: by their numbers, and by links.
-- Assumes nothing.
use Rattle.std.specs.Prelude.{ℕ, ◌+◌, ◌*◌, ◌-◌, ◌<◌, eqb, get_or, length, cond, List, [], None, Option, Some, option_map, IfSome}
use Rattle.names.specs.Lists.{In}
use Rattle.recipe.specs.Records.{Recipe}
use Rattle.shadow.specs.Shadow.{linked}
use Rattle.tree.specs.Tree.{Node, instances, node, tree_elements}
use Rattle.composer.specs.declared.Site.{Site}

-- "in tree order": the element of number e
unfoldable pub element_at : Recipe → ℕ → Node
element_at s e = get_or (tree_elements s) e (node [] 0)

-- the site in row e of the elements
abbrev pub row_site : List ℕ → ℕ → Site
row_site el e = record { inst = get_or el (5 * e + 1) 0; place = get_or el (5 * e + 0) 0 }

-- that of the element of number z - 1; none where z is 0
unfoldable pub numbered_site : List ℕ → ℕ → Option Site
numbered_site el z = cond (eqb z 0) None (Some (row_site el (z - 1)))

-- that of the record at m in the instance of number i; none where m is 0
unfoldable pub linked_site : ℕ → ℕ → Option Site
linked_site i m = option_map (λ q. record { inst = i; place = q }) (linked m)

-- the element at a site
abbrev pub node_at : Recipe → Site → Node
node_at s x = node (get_or (instances s) x.inst []) x.place

-- and that at one which may be none
unfoldable pub site_of : Recipe → Option Site → Option Node
site_of s o = option_map (node_at s) o

-- a site that there is has an element of the tree
abbrev pub SiteInTree : Recipe → Option Site → Type 0
SiteInTree s o = IfSome o (λ x. (x.inst < length (instances s)) × In (node_at s x) (tree_elements s))
