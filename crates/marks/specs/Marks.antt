-- 01's "Gone, and the chain": marks and ports of the tree, what is gone, the chain, and which records conflict.
-- Assumes nothing.
use Rattle.std.specs.Prelude.{ℕ, zero, suc, ◌≡◌, Bool, true, not, ◌&&◌, ◌||◌, List, ◌++◌, None, Option, Some, option_map}
use Rattle.names.specs.Lists.{In, keep, any, first, holds, same, begins}
use Rattle.recipe.specs.Records.{Recipe, is_port, is_deletion, is_replacement, is_replaced_by, is_mark}
use Rattle.recipe.specs.Definitions.{owner_of}
use Rattle.tree.specs.Tree.{Node, node, same_node, nodes, target, tree_elements, parent_of}

-- the marks of the tree
unfoldable pub tree_marks : Recipe → List Node
tree_marks s = nodes s (is_mark s)

-- its marks and ports
unfoldable pub tree_pointers : Recipe → List Node
tree_pointers s = nodes s (λ p. is_mark s p || is_port s p)

-- a node seen from an instance, seen from main
unfoldable pub from : List ℕ → Node → Node
from path x = node (path ++ x.path) x.place

-- "A target .. is that element of the submodel's instance": the target of a mark or port of the tree
unfoldable pub aim : Recipe → Node → Option Node
aim s r = option_map (from r.path) (target s r.place)

-- x is the target of r
unfoldable pub aims_at : Recipe → Node → Node → Bool
aims_at s r x = holds (same_node x) (aim s r)

-- q and r have one target
unfoldable pub same_aim : Recipe → Node → Node → Bool
same_aim s q r = holds (aims_at s q) (aim s r)

-- "step to the owner": the owner of a replacement or replaced-by of the tree, an element of the mark's own instance
unfoldable pub owner : Recipe → Node → Node
owner s r = node r.path (owner_of s r.place)

-- r is a replaced-by, and x its owner
unfoldable pub owns_by : Recipe → Node → Node → Bool
owns_by s x r = is_replaced_by s r.place && same_node x (owner s r)

-- r is a deletion or replacement, and x its target
unfoldable pub removes : Recipe → Node → Node → Bool
removes s x r = (is_deletion s r.place || is_replacement s r.place) && aims_at s r x

-- r is a replacement, and x its target
unfoldable pub replaces : Recipe → Node → Node → Bool
replaces s x r = is_replacement s r.place && aims_at s r x

-- "An element is gone if it is the target of a deletion or replacement, the owner of a replaced-by, or a child of a gone element"
pub data Gone (s : Recipe) : Node → Type 0 where
  removed : {x : Node} (r : Node) → In r (tree_marks s) → removes s x r ≡ true → Gone s x
  owns : {x : Node} (r : Node) → In r (tree_marks s) → owns_by s x r ≡ true → Gone s x
  child : {x y : Node} → parent_of s x ≡ Some y → Gone s y → Gone s x

-- the same as tests, which `proofs/IsGone.antt` shows: "the target of a deletion or replacement, the owner of a replaced-by"
unfoldable pub is_marked_gone : Recipe → Node → Bool
is_marked_gone s x = any (λ r. removes s x r || owns_by s x r) (tree_marks s)

-- "or a child of a gone element"; a parent is of class 4 and has none itself, which row 5 sees to
unfoldable pub is_gone : Recipe → Node → Bool
is_gone s x = is_marked_gone s x || holds (is_marked_gone s) (parent_of s x)

-- "The others survive", in tree order
unfoldable pub survivors : Recipe → List Node
survivors s = keep (λ x. not (is_gone s x)) (tree_elements s)

-- "if it owns a replaced-by, step to that target; otherwise it ends there"
unfoldable pub step_down : Recipe → Node → Option Node
step_down s x = elim (first (owns_by s x) (tree_marks s)) [ None ↦ None | Some r ↦ aim s r ]

-- "if it is a replacement's target, step to the owner"
unfoldable pub step : Recipe → Node → Option Node
step s x = elim (first (replaces s x) (tree_marks s)) [ None ↦ step_down s x | Some r ↦ Some (owner s r) ]

-- "A chain's length is the number of its steps, 0 where it ends at once": a chain of n steps leads from x to z
pub data Chain (s : Recipe) : ℕ → Node → Node → Type 0 where
  end : {x : Node} → step s x ≡ None → Chain s zero x x
  then : {n : ℕ} {x y z : Node} → step s x ≡ Some y → Chain s n y z → Chain s (suc n) x z

-- where the chain from x is after at most n steps
unfoldable pub chain_within : ℕ → Recipe → Node → Node
chain_within zero s x = x
chain_within (suc n) s x = elim (step s x) [ None ↦ x | Some y ↦ chain_within n s y ]

-- "the element at the end of the chain" from x: a chain has at most five steps, one more than there are depths to climb
unfoldable pub chain_end : Recipe → Node → Node
chain_end s x = chain_within 5 s x

-- "the mark's instance is the port's or lies below it"
unfoldable pub is_at_or_below : Node → Node → Bool
is_at_or_below mark port = begins port.path mark.path

-- "two marks have one target"
unfoldable pub marks_clash : Recipe → Node → Node → Bool
marks_clash s q r = is_mark s q.place && is_mark s r.place && same_aim s q r

-- "a replaced-by's owner is the target of a mark or port"
unfoldable pub owner_clash : Recipe → Node → Node → Bool
owner_clash s q r = is_replaced_by s q.place && aims_at s r (owner s q)

-- "two ports of one instance have one target"
unfoldable pub ports_clash : Recipe → Node → Node → Bool
ports_clash s q r = is_port s q.place && is_port s r.place && same q.path r.path && same_aim s q r

-- "a mark and a port have one target and the mark's instance is the port's or lies below it"
unfoldable pub port_clash : Recipe → Node → Node → Bool
port_clash s q r = is_mark s q.place && is_port s r.place && is_at_or_below q r && same_aim s q r

-- "Two records conflict when": the four, either way round
unfoldable pub conflict : Recipe → Node → Node → Bool
conflict s q r =
    marks_clash s q r || owner_clash s q r || owner_clash s r q || ports_clash s q r || port_clash s q r || port_clash s r q
