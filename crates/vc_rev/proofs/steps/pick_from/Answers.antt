use Rattle.std.proofs.Common.{◌≡◌, ◌≢◌, Ok, refl, sym}
use Rattle.std.proofs.lemmas.Result.{err_from_is_err_and, IfOk-weaker, IfErr-weaker, IfErr-at_err}
use Rattle.vc_files.specs.declared.faults.Fault.TheVariants as devices
use Rattle.vc_object.specs.Decoding.{stored_object}
use Rattle.vc_object_map.specs.declared.faults.StoreFault.TheVariants as stores
use Rattle.vc_rev.specs.Asking.{PeelingAsks}
use Rattle.vc_rev.specs.Meaning.{PeelsTo, pick}
use Rattle.vc_rev.specs.declared.refusal.SourceFault.TheVariants as sources
use Rattle.vc_rev.specs.declared.refusal.RevFault.{RevFault}
use Rattle.vc_rev.specs.declared.refusal.RevFault.TheVariants as faults
use Rattle.vc_rev.proofs.AnswerLemmas.{told_only, told_alone, wears_none}
use Rattle.vc_rev.proofs.steps.pick_from.Goals as goal

pub returns-in_err-at-clause-refused : goal.returns-in_err-at-clause-refused
returns-in_err-at-clause-refused g c =
    let s = g.R.Repository.source (g.R.Repository.view_of c.args.repo.now) in
    let blames = g.R.Repository.blames (g.R.Repository.view_of c.args.repo.now) in
    let p = err_from_is_err_and c.from_residual.result c.from_residual.ensures.1 in
    rw (p.1, p.2) (λ honest. told_only blames (PeelingAsks s c.args.id) (PeelsTo s c.args.id) (λ found a. a ≡ pick c.args.step found) c.in_err-at.field-0.0 (c.in_err-at.ensures.refused honest))

pub returns-clause-ok : goal.returns-clause-ok
returns-clause-ok g c =
    IfOk-weaker c.pick.result _ _ (λ found h honest. (Ok (c.in_ok-at.at, stored_object c.in_ok-at.object.kind c.in_ok-at.object.body.items), c.in_ok-at.ensures.ok honest, sym h)) c.pick.ensures.ok

pub returns-clause-refused : goal.returns-clause-refused
returns-clause-refused g c =
    let s = g.R.Repository.source (g.R.Repository.view_of c.args.repo.now) in
    let blames = g.R.Repository.blames (g.R.Repository.view_of c.args.repo.now) in
    IfErr-weaker c.pick.result _ _ (λ e h honest.
    told_alone blames (PeelingAsks s c.args.id) (PeelsTo s c.args.id) (λ found a. a ≡ pick c.args.step found) (c.in_ok-at.at, stored_object c.in_ok-at.object.kind c.in_ok-at.object.body.items) e (c.in_ok-at.ensures.ok honest) h) c.pick.ensures.refused

pub returns-clause-wear : goal.returns-clause-wear
returns-clause-wear g c =
    wears_none g.R.Objects.failed g.R.Objects.can_fail g.R.Objects.left c.args.repo.now c.peel.new.repo _ _ c.in_ok-at.ensures.wear
    (λ is. IfErr-at_err (λ (e : RevFault). e ≢ faults.Source (sources.Store (stores.Fault devices.Device))) is c.pick.ensures.memory refl)
