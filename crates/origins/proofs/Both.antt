-- The statements of `Again.antt`, at any name width of two or more.
-- Assumes nothing.
use mathlib.Core.Path.{◌≡◌, sym, ap, ◌∙◌}
use Prim.Native.Nat.{ℕ, ◌*◌, ◌≤◌}
use mathlib.Core.List.{List}
use lib.ListN.{length, take}
use Rattle.names.specs.Lists.{In}
use Rattle.names.proofs.ListOrder.{pointwise-left}
use Rattle.flat_table.specs.Table.{flat_length}
use Rattle.recipe.specs.Records.{Recipe}
use Rattle.marks.specs.Marks.{survivors}
use Rattle.compose.specs.Rows.{Unrefused}
use Rattle.composer.specs.declared.Answer.{Answer}
use Rattle.composer.specs.FlatRecords.{RecordOf, record_places}
use Rattle.composer.specs.Verdicts.{accepted, verdict, written}
use Rattle.composer.proofs.Demand.{Demand, demand-of, exactly}
use Rattle.origins.specs.declared.Origin.{Origin}
use Rattle.origins.specs.Again.{NamedAgain, OwnPath, name_in, places_of}
use Rattle.origins.specs.Origins.{walk_back}
use Rattle.origins.proofs.Answers.{origin-is}
use Rattle.origins.proofs.Walks.{in-instance, origin-named, own_origin, spells, walked-origin, walked-unrefused}

module _ (s : Recipe) (two : 2 ≤ s.width) (before after : List ℕ) (a : Answer) (answers : a ≡ verdict s (length before)) (leaves : after ≡ written s before) where
  pub again : (f : List ℕ) (o : Origin) → o ≡ walk_back s f → o.number ≡ 0 → flat_length s.width * length (survivors s) ≤ length before → NamedAgain s f o a after
  unfolding accepted
  again f o w z room =
      let h = walked-unrefused s f o w z in
      let x = walked-origin s f o w z in
      let i = (origin-is s f x.0 x.1).0 in
      let ok : a.number ≡ 0 = ap (λ (b : Answer). b.number) (answers ∙ (exactly s (length before)).1 (h, room)) in
      record {
        accepts = ok;
        table = (demand-of s two before after a answers leaves ok).table;
        element = x.0;
        spelt = spells s two h x.0 i o x.2;
        instance = in-instance s two h x.0 i;
        names = origin-named s two h f x.0 x.1;
      }

  module _ (accepts : a.number ≡ 0) where
    whole : Demand s before after a
    whole = demand-of s two before after a answers leaves accepts

    clear : Unrefused s
    clear = ((exactly s (length before)).0 (ap (λ (b : Answer). b.number) (sym answers) ∙ accepts)).0

    pub own : (p : ℕ) → In p (places_of s.width (take a.bytes after)) → (o : Origin) → o ≡ walk_back s (name_in s.width (take a.bytes after) p) → OwnPath s p o
    own p i o w =
        let x = pointwise-left (RecordOf s) (record_places s) (survivors s) p whole.kept.ordered (rw whole.table at i) in
        let f = rw whole.table at w in
        record {
          element = x.0;
          survives = x.1;
          of = x.2;
          spelt = spells s two clear x.0 x.1 o (f ∙ ap (walk_back s) x.2.name ∙ own_origin s two clear x.0 x.1);
        }

    pub listed : (f : List ℕ) (o : Origin) → o ≡ walk_back s f → o.number ≡ 0
        → (p : ℕ) × In p (places_of s.width (take a.bytes after)) × (name_in s.width (take a.bytes after) p ≡ f)
    listed f o w z =
        let x = walked-origin s f o w z in
        let n = origin-named s two clear f x.0 x.1 in
        rw whole.table (n.place, n.listed, n.named)

    pub back : (p : ℕ) → In p (places_of s.width (take a.bytes after)) → (o : Origin) → o ≡ walk_back s (name_in s.width (take a.bytes after) p) → o.number ≡ 0
    back p i o w = (own p i o w).spelt.found
