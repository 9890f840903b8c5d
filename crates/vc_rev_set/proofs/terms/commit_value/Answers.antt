use Rattle.std.proofs.Common.{◌≡◌, ◌≢◌, Ok, refl, sym, rules}
use Rattle.std.proofs.lemmas.Result.{err_from_is_err_and, IfOk-weaker, IfErr-weaker, IfErr-at_err}
use Rattle.vc_files.specs.Failures.{Wears}
use Rattle.vc_files.specs.declared.faults.Fault.TheVariants as devices
use Rattle.vc_object.specs.Decoding.{StoredObject, stored_object}
use Rattle.vc_object.specs.declared.id.ObjectId.{ObjectId}
use Rattle.vc_object_map.specs.declared.faults.StoreFault.TheVariants as stores
use Rattle.vc_rev.specs.Answer.{After}
use Rattle.vc_rev.specs.Asking.{PeelingAsks, RevAsks}
use Rattle.vc_rev.specs.Meaning.{PeelsTo, RevGives}
use Rattle.vc_rev_set.specs.Selection.{commit_at}
use Rattle.vc_expression.specs.Views.{rev_view}
use Rattle.vc_rev.specs.declared.refusal.SourceFault.TheVariants as sources
use Rattle.vc_rev.specs.declared.refusal.RevFault.{RevFault}
use Rattle.vc_rev.specs.declared.refusal.RevFault.TheVariants as faults
use Rattle.vc_rev.proofs.AnswerLemmas.{told_first, told_next, told_only, told_alone, wears_none}
use Rattle.vc_rev_set.proofs.terms.commit_value.Goals as goal

pub returns-in_err-id-clause-refused : goal.returns-in_err-id-clause-refused
returns-in_err-id-clause-refused g c =
    let s = g.R.Repository.source (g.R.Repository.view_of c.args.repo.now) in
    let blames = g.R.Repository.blames (g.R.Repository.view_of c.args.repo.now) in
    let p = err_from_is_err_and c.from_residual.result c.from_residual.ensures.1 in
    rw (p.1, p.2) (λ honest. told_first blames (RevAsks s (rev_view c.args.rev.now)) (RevGives s (rev_view c.args.rev.now)) (PeelingAsks s) (λ x. After (PeelsTo s x) (λ found a. a ≡ commit_at found)) c.in_err-id.field-0.0 (c.in_err-id.ensures.refused honest))

pub returns-in_err-at-clause-refused : goal.returns-in_err-at-clause-refused
returns-in_err-at-clause-refused g c =
    let s = g.R.Repository.source (g.R.Repository.view_of c.args.repo.now) in
    let blames = g.R.Repository.blames (g.R.Repository.view_of c.args.repo.now) in
    let told = rw c.in_ok-id.ensures.seen at c.in_err-at.ensures.refused in
    let p = err_from_is_err_and c.from_residual-in_err-at.result c.from_residual-in_err-at.ensures.1 in
    rw (p.1, p.2) (λ honest.
    told_next blames (RevAsks s (rev_view c.args.rev.now)) (RevGives s (rev_view c.args.rev.now)) (PeelingAsks s) (λ x. After (PeelsTo s x) (λ found a. a ≡ commit_at found)) c.in_ok-id.id c.in_err-at.field-0.0 (c.in_ok-id.ensures.ok honest)
    (told_only blames (PeelingAsks s c.in_ok-id.id) (PeelsTo s c.in_ok-id.id) (λ found a. a ≡ commit_at found) c.in_err-at.field-0.0 (told honest)))

pub returns-clause-ok : goal.returns-clause-ok
returns-clause-ok g c =
    let peeled = rw c.in_ok-id.ensures.seen at c.in_ok-at.ensures.ok in
    IfOk-weaker c.commit_at.result _ _ (λ found h honest. (Ok c.in_ok-id.id, c.in_ok-id.ensures.ok honest, (Ok (c.in_ok-at.at, stored_object c.in_ok-at.object.kind c.in_ok-at.object.body.items), peeled honest, sym h))) c.commit_at.ensures.ok

pub returns-clause-refused : goal.returns-clause-refused
returns-clause-refused g c =
    let s = g.R.Repository.source (g.R.Repository.view_of c.args.repo.now) in
    let blames = g.R.Repository.blames (g.R.Repository.view_of c.args.repo.now) in
    let found : ObjectId × StoredObject = (c.in_ok-at.at, stored_object c.in_ok-at.object.kind c.in_ok-at.object.body.items) in
    let peeled = rw c.in_ok-id.ensures.seen at c.in_ok-at.ensures.ok in
    IfErr-weaker c.commit_at.result _ _ (λ e h honest.
    told_next blames (RevAsks s (rev_view c.args.rev.now)) (RevGives s (rev_view c.args.rev.now)) (PeelingAsks s) (λ x. After (PeelsTo s x) (λ f a. a ≡ commit_at f)) c.in_ok-id.id e (c.in_ok-id.ensures.ok honest)
    (told_alone blames (PeelingAsks s c.in_ok-id.id) (PeelsTo s c.in_ok-id.id) (λ f a. a ≡ commit_at f) found e (peeled honest) h)) c.commit_at.ensures.refused

pub returns-clause-wear : goal.returns-clause-wear
returns-clause-wear g c =
    let before : Wears g.R.Objects.failed g.R.Objects.can_fail g.R.Objects.left c.args.repo.now c.peel.new.repo ⊥ = search rules in
    wears_none g.R.Objects.failed g.R.Objects.can_fail g.R.Objects.left c.args.repo.now c.peel.new.repo _ _ before
    (λ is. IfErr-at_err (λ (e : RevFault). e ≢ faults.Source (sources.Store (stores.Fault devices.Device))) is c.commit_at.ensures.memory refl)
