-- 01's "Tree and targets". An instance is its path, the places of the submodel records from main downward; main's is the empty path.
-- Assumes nothing.
use Rattle.std.specs.Prelude.{ℕ, zero, suc, Bool, true, false, ◌&&◌, List, [], ◌∷◌, map, length, eqb, None, Option, Some, option_map}
use Rattle.names.specs.Lists.{In, keep, joined, same}
use Rattle.names.specs.Names.{text, is_blank}
use Rattle.recipe.specs.Records.{Recipe, is_element, submodel_field, way, target_field, parent_field, reference_field}
use Rattle.recipe.specs.Definitions.{main, definitions, records_of, holder, submodels, element_named, submodel_named, port_named, model_of, element_in}

-- "Each submodel record of an instance makes an instance of its model one deeper": the paths from an instance of d, at most n deep, in tree order
unfoldable pub paths_below : ℕ → Recipe → ℕ → List (List ℕ)
paths_below zero s d = [] ∷ []
paths_below (suc n) s d = [] ∷ joined (map (λ m. map (λ path. m ∷ path) (paths_below n s (model_of s m))) (submodels s d))

-- row 7, "depth over 4": the greatest depth
unfoldable pub most_depth : ℕ
most_depth = 4

-- "Main is one instance, at depth 0": the instances, in tree order; one deeper than allowed is seen, and no further
unfoldable pub instances : Recipe → List (List ℕ)
instances s = paths_below (suc most_depth) s main

-- the definition at the end of a path from an instance of d
unfoldable pub definition_below : Recipe → ℕ → List ℕ → ℕ
definition_below s d [] = d
definition_below s d (m ∷ path) = definition_below s (model_of s m) path

-- a path of submodels, each of the definition reached
abbrev pub Submodels : Recipe → ℕ → List ℕ → Type 0
Submodels s d [] = Unit {0}
Submodels s d (m ∷ path) = In m (submodels s d) × Submodels s (model_of s m) path

-- the definition of an instance
unfoldable pub definition_at : Recipe → List ℕ → ℕ
definition_at s path = definition_below s main path

-- "an element record together with one instance of its definition"; so too a port or a mark
pub record Node : Type 0 where
  pub path : List ℕ
  pub place : ℕ

-- the record at p in the instance
unfoldable pub node : List ℕ → ℕ → Node
node path p = record { path = path; place = p }

-- one and the same node
unfoldable pub same_node : Node → Node → Bool
same_node x y = same x.path y.path && eqb x.place y.place

-- "an instance's elements in record order, then each submodel's whole subtree in record order": the nodes whose records pass a test
unfoldable pub nodes : Recipe → (ℕ → Bool) → List Node
nodes s t = joined (map (λ path. map (node path) (keep t (records_of s (definition_at s path)))) (instances s))

-- the elements of the tree, in tree order
unfoldable pub tree_elements : Recipe → List Node
tree_elements s = nodes s (is_element s)

-- "its parent .. looked for in that same instance"; none for a blank
unfoldable pub parent_of : Recipe → Node → Option Node
parent_of s x = option_map (node x.path) (element_in s x.place (parent_field s x.place))

-- "its .. reference .. looked for in that same instance": the element that it names; none for a blank
unfoldable pub reference_of : Recipe → Node → Option Node
reference_of s x = option_map (node x.path) (element_in s x.place (reference_field s x.place))

-- a node seen from the instance of the submodel record m, seen from the instance that holds m
unfoldable pub through : ℕ → Node → Node
through m x = node (m ∷ x.path) x.place

-- "A target by element name is that element": of definition d, named n
unfoldable pub element_target : Recipe → ℕ → List ℕ → Option Node
element_target s d n = option_map (node []) (element_named s d n)

-- "By port name it is that port's target": what t names by way w in an instance of d, where `port_target q` is the target of its port q
unfoldable pub target_named : Recipe → (ℕ → Option Node) → ℕ → ℕ → List ℕ → Option Node
target_named s port_target d w t =
    elim (eqb w 0) [
      | true ↦ element_target s d t
      | false ↦ elim (port_named s d t) [ None ↦ None | Some q ↦ port_target q ]
    ]

-- the submodels that a port or mark names, from its own definition downward: one
unfoldable pub submodel_names : Recipe → ℕ → List (List ℕ)
submodel_names s r = text (submodel_field s r) ∷ []

-- what t names by way w in the instance that the submodels ns lead to from an instance of d
unfoldable pub target_below : Recipe → (ℕ → Option Node) → ℕ → List (List ℕ) → ℕ → List ℕ → Option Node
target_below s port_target d [] w t = target_named s port_target d w t
target_below s port_target d (n ∷ ns) w t =
    elim (submodel_named s d n) [ None ↦ None | Some m ↦ option_map (through m) (target_below s port_target (model_of s m) ns w t) ]

-- "A port with a blank submodel names an element of its own definition, never a port": the target of the port or mark at r,
-- seen from its instance, where `port_target q` is the target of a port q below
unfoldable pub target_by : Recipe → (ℕ → Option Node) → ℕ → Option Node
target_by s port_target r =
    elim (is_blank (submodel_field s r)) [
      | true ↦ element_target s (holder s r) (text (target_field s r))
      | false ↦ target_below s port_target (holder s r) (submodel_names s r) (way s r) (text (target_field s r))
    ]

-- "a port may lead to a further port in a submodel below": by at most n records
unfoldable pub target_within : ℕ → Recipe → ℕ → Option Node
target_within zero s r = None
target_within (suc n) s r = target_by s (target_within n s) r

-- the target of the port or mark at r, seen from its instance; each record on the way stands in another definition
unfoldable pub target : Recipe → ℕ → Option Node
target s r = target_within (length (definitions s)) s r
