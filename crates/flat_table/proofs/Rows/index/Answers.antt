-- `Rows::index` meets its contract: the keys are the hashes of the names.
-- Assumes nothing.
use mathlib.Core.Path.{sym, ap, subst, ◌∙◌}
use native.Mathlib.Omega.{arith}
use lib.ListN.{length}
use Rattle.name_index.specs.declared.Records.{Records}
use Rattle.name_index.specs.Index.{name_of, Hashed}
use Rattle.flat_table.proofs.Places.{hashes}
use Rattle.flat_table.proofs.Rows.index.Goals as goal

pub invariant_of-result : goal.invariant_of-result
invariant_of-result c =
    let e = c.build-names.ensures in
    let t = c.args.self.bytes.now in
    let l = c.args.self.layout in
    record {
      bytes = ap (λ (r : Records). r.bytes.now) e;
      layout = ap (λ (r : Records). r.layout) e;
      count = ap (λ (r : Records). length r.keys.now) e ∙ omega (arith, c.requires.keys);
      hashed = subst (λ (r : Records). Hashed r.keys.now (name_of t l) (length r.keys.now)) (sym e) (hashes t l _ c.hash_names.ensures);
    }
