-- Demand 3: what holds of every recipe that no row before 13 refuses, at every name width of two or more, and of its flat table.
-- Each part is a clause of the demand and cites a law that is proved elsewhere; `Demand.antt` says it of the call. Assumes nothing.
use Rattle.std.specs.Prelude.{Some}
use mathlib.Core.Path.{◌≡◌}
use Prim.Native.Nat.{ℕ, ◌*◌, ◌≤◌}
use mathlib.Core.Bool.{true, false}
use mathlib.Core.List.{List}
use lib.ListN.{length}
use Rattle.names.specs.Lists.{In, Pointwise, begins}
use Rattle.names.specs.Names.{is_blank}
use Rattle.names.proofs.Judging.{row-none}
use Rattle.flat_table.specs.Table.{row_count, flat_width, flat_length, table_verdict, Closed}
use Rattle.recipe.specs.Records.{Recipe}
use Rattle.recipe.specs.Definitions.{definitions, submodels, model_of}
use Rattle.recipe.specs.Reaching.{Reach}
use Rattle.recipe.proofs.Rows.{no-cycle}
use Rattle.tree.specs.Tree.{Node, tree_elements, reference_of}
use Rattle.marks.specs.Marks.{Gone, is_gone, survivors, Chain, chain_end}
use Rattle.marks.proofs.Conflicts.{chain_length, chain-exists}
use Rattle.marks.proofs.IsGone.{found-gone, gone-found}
use Rattle.flat_names.specs.Prefixes.{declared_names, prefix}
use Rattle.flat_names.proofs.OneName.{free-prefix, free-prefix-inside}
use Rattle.composer.specs.Flat.{flat}
use Rattle.composer.specs.FlatRecords.{record_places, name_at, parent_at, reference_at, RecordOf, ParentNamed, ReferenceNamed, Ended}
use Rattle.compose.specs.Rows.{refusal_rows, Unrefused}
use Rattle.composer.proofs.Lengths.{flat-bytes}
use Rattle.composer.proofs.Table.{record-count, records, reference-ended, one-record, parent-named, reference-named, table-closed, table-accepted}

pub record Promises (s : Recipe) : Type 0 where
  -- "the count is the number of survivors": the table has as many records
  pub counted : row_count (flat_width s.width) (flat_length s.width) (flat s) ≡ length (survivors s)
  -- "the table is their records in tree order, byte for byte": the records are those of the survivors, one for one, in tree order
  pub ordered : Pointwise (RecordOf s) (record_places s) (survivors s)
  -- and there is no byte beside these records
  pub whole : length (flat s) ≡ flat_length s.width * length (survivors s)
  -- the survivors are those that are not gone, and gone is just what 01 says: the target of a deletion or replacement, the owner of a replaced-by, or a child of a gone element
  pub gone : (x : Node) → In x (tree_elements s) → (is_gone s x ≡ true → Gone s x) × (Gone s x → is_gone s x ≡ true)
  -- "no two records have one name"
  pub unique : (p q : ℕ) → In p (record_places s) → In q (record_places s) → name_at s p ≡ name_at s q → p ≡ q
  -- "each filled parent .. field is the name of exactly one record": that of the survivor's parent
  pub parents : (p : ℕ) → In p (record_places s) → is_blank (parent_at s p) ≡ false → ParentNamed s p
  -- "each filled .. reference field is the name of exactly one record": that of the end of the chain from the element that the survivor's reference names
  pub references : (p : ℕ) → In p (record_places s) → is_blank (reference_at s p) ≡ false → ReferenceNamed s p
  -- "a reference names the record at the end of the replacement chain, never a gone element": a chain leads from what a survivor's reference names to a survivor
  pub present : (x y : Node) → In x (survivors s) → reference_of s x ≡ Some y → Ended s y
  -- "the end of the replacement chain" is one: a chain leads to it from each element of the tree, and no chain from there ends elsewhere
  pub ends : (x : Node) → In x (tree_elements s) → ((k : ℕ) × Chain s k x (chain_end s x)) × ((k : ℕ) (z : Node) → Chain s k x z → z ≡ chain_end s x)
  -- "no chain is longer than five steps", from any element of the tree
  pub short : (k : ℕ) (x z : Node) → In x (tree_elements s) → Chain s k x z → k ≤ 5
  -- "the table check passes that table with the same count": none of 14 to 17 applies to it,
  pub closed : Closed s.width (flat s)
  -- and so the check answers
  pub checked : table_verdict s.width (flat s) ≡ record { number = 0; place = 0; count = length (survivors s) }
  -- "no definition reaches itself"
  pub acyclic : (d : ℕ) → In d (definitions s) → Reach s d d → ⊥
  -- "a submodel's prefix is tested against the names of the model around it, too": none of an element or submodel of the definition d that holds the submodel m begins with it,
  pub around : (d m : ℕ) (n : List ℕ) → In m (submodels s d) → In n (declared_names s d) → begins (prefix s m) n ≡ false
  -- nor one of the definition that m instantiates
  pub inside : (d m : ℕ) (n : List ℕ) → In m (submodels s d) → In n (declared_names s (model_of s m)) → begins (prefix s m) n ≡ false

-- demand 3
pub promises : (s : Recipe) → 2 ≤ s.width → Unrefused s → Promises s
promises s two h =
    let r₃ = row-none 3 (refusal_rows s) h in
    let r₄ = row-none 4 (refusal_rows s) h in
    let r₅ = row-none 5 (refusal_rows s) h in
    let r₆ = row-none 6 (refusal_rows s) h in
    let r₇ = row-none 7 (refusal_rows s) h in
    let r₉ = row-none 9 (refusal_rows s) h in
    let r₁₂ = row-none 12 (refusal_rows s) h in
    let chain = chain_length s r₉ r₃ r₅ r₆ r₇ in
    record {
      counted = record-count s two r₃ r₅ r₇;
      ordered = records s two r₃ r₅ r₇;
      whole = flat-bytes s two r₃ r₇ r₅;
      gone = λ x i. (found-gone s x, gone-found s r₅ x i);
      unique = one-record s two r₃ r₅ r₇ r₄;
      parents = parent-named s two r₃ r₅ r₇ r₄;
      references = reference-named s two r₃ r₅ r₇ r₄ r₁₂;
      present = reference-ended s two r₃ r₅ r₇ r₆ r₉ r₁₂;
      ends = λ x i. (chain-exists s r₉ r₃ r₅ r₆ r₇ x i, λ k z c. (chain k x z i c).1);
      short = λ k x z i c. (chain k x z i c).0;
      closed = table-closed s two r₃ r₅ r₇ r₄ r₁₂;
      checked = table-accepted s two r₃ r₅ r₇ r₄ r₁₂;
      acyclic = no-cycle s r₆;
      around = free-prefix s two r₃;
      inside = free-prefix-inside s two r₃;
    }
