-- `factors::put_site` meets its contract: two numbers, one behind the other.
-- Assumes nothing.
use Prim.Native.Nat.{ℕ}
use lib.ListN.{set}
use lib.Seq.{sets}
use mathlib.Core.Path.{◌∙◌, ap}
use native.Mathlib.Numerals.{add-one}
use Rattle.factors.proofs.Sites.{cells-are}
use Rattle.factors.proofs.put_site.Goals as goal

pub returns : goal.returns
returns c =
    let x = c.unwrap_or-x.result in
    ap (λ (k : ℕ). set (set c.args.sites.now c.args.at x.inst) k x.place) (add-one c.args.at) ∙ ap (sets c.args.sites.now c.args.at) (cells-are c.args.site x c.unwrap_or-x.ensures)
