-- What the writers of the companion are given: the elements, and where the eight factors of each instance are.
-- Assumes nothing.
use Rattle.std.specs.Prelude.{ℕ, suc, ◌+◌, ◌*◌, ◌-◌, ◌≤◌, ◌<◌, cond, List, [], ◌∷◌, map, ◌≡◌, ltb, get_or, length, take, IfSome, None, Option, Some, option_map}
use Rattle.names.specs.Lists.{joined}
use Rattle.flat_table.specs.Table.{flat_width}
use Rattle.recipe.specs.Records.{Recipe, extent_field, time_field}
use Rattle.tree.specs.Numbers.{run}
use Rattle.tree.specs.Tree.{Node, instances, most_depth, node}
use Rattle.marks.specs.Marks.{chain_end}
use Rattle.factor_ends.specs.FactorEnds.{Factor}
use Rattle.composer.specs.Flat.{flat_field}
use Rattle.composer.specs.declared.Site.{Site}
use Rattle.composer.specs.Writing.{linked_site, site_of}
use Rattle.factors.specs.Companion.{factor_at}

-- the factor of field number j of an entry, for an element of the instance at the path: 0 to 3 the time factors, 4 to 7 the extent factors
unfoldable pub factor_field : Recipe → List ℕ → ℕ → Option Node
factor_field s path j = cond (ltb j most_depth) (factor_at s time_field path (suc j)) (factor_at s extent_field path (suc (j - most_depth)))

-- the first n of the eight fields
abbrev pub fields_to : Recipe → List ℕ → ℕ → List ℕ
fields_to s path n = joined (map (λ j. flat_field s (factor_field s path j)) (run 0 n))

-- the site is where o is: in an instance, and at a record, none of which stands at 0
pub record SiteIs (s : Recipe) (o : Option Node) (x : Option Site) : Type 0 where
  pub is : site_of s x ≡ o
  pub inside : IfSome x (λ y. (y.inst < length (instances s)) × (0 < y.place))

-- where the end of the chain is from the element o, or none, in whichever instance whose first element has the number f
abbrev pub FactorSite : Recipe → ℕ → Option ℕ → Option Site → Type 0
FactorSite s f o x = (path : List ℕ) → Factor s f path o → SiteIs s (option_map (chain_end s) (option_map (node path) o)) x

-- a site in two cells of the table: the instance and the record, which is 0 for none
unfoldable pub site_cells : Option Site → List ℕ
site_cells None = 0 ∷ 0 ∷ []
site_cells (Some x) = x.inst ∷ x.place ∷ []

-- the site that the cells at k and behind it have
unfoldable pub stored_site : List ℕ → ℕ → Option Site
stored_site sites k = linked_site (get_or sites (k + 0) 0) (get_or sites (k + 1) 0)

-- there is a row for each instance, and the first n have in it where the eight factors are
pub record SitesTo (s : Recipe) (sites : List ℕ) (n : ℕ) : Type 0 where
  pub room : 16 * length (instances s) ≤ length sites
  pub are : (i j : ℕ) → i < n → j < 8 → SiteIs s (factor_field s (get_or (instances s) i []) j) (stored_site sites (16 * i + 2 * j))

-- all instances have
abbrev pub Sited : Recipe → List ℕ → Type 0
Sited s sites = SitesTo s sites (length (instances s))

-- the eight fields of the entries of instance i are at the start of the row
abbrev pub RowFor : Recipe → ℕ → List ℕ → Type 0
RowFor s i row = take (8 * flat_width s.width) row ≡ fields_to s (get_or (instances s) i []) 8
