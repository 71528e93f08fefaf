-- `Held::link_record` meets its contract: kind by kind.
-- Assumes nothing.
use Rattle.std.specs.Prelude.{Some}
use mathlib.Core.Path.{sym, ap, ◌∙◌}
use Rattle.recipe.specs.Records.{mark_kind}
use Rattle.recipe.proofs.Bodies.{mark-kind}
use Rattle.recipe.proofs.Rows.{mark-submodel}
use Rattle.links.specs.Held.{its_recipe}
use Rattle.links.proofs.Fields.{read, not-refused, read_right}
use Rattle.links.proofs.Linking.{mark-begins, model-links, without-owner}
use Rattle.links.proofs.Looking.{placed}
use Rattle.links.proofs.Held.link_record.Goals as goal

pub read_record-requires : goal.read_record-requires
read_record-requires c = let h = c.args.self.now in read (its_recipe h) h.place (placed h)

pub returns-in_err-read_record : goal.returns-in_err-read_record
returns-in_err-read_record c =
    let h = c.args.self.now in
    not-refused (its_recipe h) h.place (placed h) h.linker.now.index.formed (sym c.in_err-read_record.was ∙ c.read_record.ensures)

pub link_element-requires : goal.link_element-requires
link_element-requires c = sym (c.in_ok-read_record.was ∙ ap Some c.in-Element.is) ∙ c.read_record.ensures

pub link_port-requires : goal.link_port-requires
link_port-requires c = sym (c.in_ok-read_record.was ∙ ap Some c.in-Port.is) ∙ c.read_record.ensures

pub link_submodel-requires : goal.link_submodel-requires
link_submodel-requires c = sym (c.in_ok-read_record.was ∙ ap Some c.in-Submodel.is) ∙ c.read_record.ensures

pub link_pointer-requires : goal.link_pointer-requires
link_pointer-requires c =
    let h = c.args.self.now in
    let R = its_recipe h in
    let p = h.place in
    let k = read_right R p (placed h) (sym (c.in_ok-read_record.was ∙ ap Some c.in-Deletion.is) ∙ c.read_record.ensures) in
    without-owner R p (rw k.0) (rw k.0) (mark-submodel R h.linker.now.index.formed p (placed h) (mark-kind R p ∙ ap mark_kind k.0)) (mark-begins R p k.1)

pub link_owned-requires : goal.link_owned-requires
link_owned-requires c =
    let h = c.args.self.now in
    read_right (its_recipe h) h.place (placed h) (sym (c.in_ok-read_record.was ∙ ap Some c.in-Replacement.is) ∙ c.read_record.ensures)

pub link_owned-requires-in-ReplacedBy : goal.link_owned-requires-in-ReplacedBy
link_owned-requires-in-ReplacedBy c =
    let h = c.args.self.now in
    read_right (its_recipe h) h.place (placed h) (sym (c.in_ok-read_record.was ∙ ap Some c.in-ReplacedBy.is) ∙ c.read_record.ensures)

pub link_factors-requires : goal.link_factors-requires
link_factors-requires c = sym (c.in_ok-read_record.was ∙ ap Some c.in-Factors.is) ∙ c.read_record.ensures

pub returns-in-Model : goal.returns-in-Model
returns-in-Model c =
    let h = c.args.self.now in
    model-links (its_recipe h) h.place (read_right (its_recipe h) h.place (placed h) (sym (c.in_ok-read_record.was ∙ ap Some c.in-Model.is) ∙ c.read_record.ensures))
