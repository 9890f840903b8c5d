use Rattle.std.proofs.Common.{◌≡◌, ◌≤◌, List, length, map, sym, ◌∙◌, subst}
use Rattle.std.proofs.lemmas.List.{take_all}
use Rattle.vc_format.specs.Git.{bytes_of_id}
use Rattle.vc_message.specs.Machine.{IsWritten}
use Rattle.vc_model.specs.Clone.{haves_of}
use Rattle.vc_model.specs.Message.Message.{Want}
use Rattle.vc_object.specs.declared.id.ObjectId.{ObjectId}
use Rattle.vc_exchange.proofs.WantingHaves.{written_want}
use Rattle.vc_exchange.proofs.wanting.want_message.Goals as goal

pub returns-clause-written : goal.returns-clause-written
returns-clause-written g c = λ honest r held holds.
    let wants = c.in_ok-wants.wants.items in
    let haves = c.in_ok-haves.haves.items in
    let bytes = c.in_ok-bytes.bytes.items in
    let all : wants ≡ c.args.wants.now = c.in_ok-wants.ensures.first ∙ take_all 256 c.args.wants.now c.requires.few in
    let few : length wants ≤ 256 = subst (λ (l : List ObjectId). length l ≤ 256) (sym all) c.requires.few in
    subst (λ (l : List ObjectId). IsWritten (Want (map bytes_of_id l) (haves_of r)) bytes) all
    (written_want wants haves (haves_of r) bytes (λ none. c.requires.some (sym all ∙ none)) few c.in_ok-haves.ensures.few c.in_ok-wants.ensures.ids c.in_ok-haves.ensures.ids (c.in_ok-haves.ensures.haves honest r held holds) c.in_ok-bytes.ensures)
