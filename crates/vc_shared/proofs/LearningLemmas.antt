-- A value that a push has set a branch to is learnt.
use Rattle.std.proofs.Common.{◌≡◌, ℕ, zero, suc, List, [], ◌∷◌, Some, Contains, inr, slice_get, subst, sym}
use Rattle.std.proofs.lemmas.List.Elements.{Contains-append_left, Contains-append_right, Contains-push}
use Rattle.vc_object.specs.declared.id.ObjectId.{ObjectId}
use Rattle.vc_push.specs.Push.{CommandText}
use Rattle.vc_session.specs.Learning.{LearnsAt, tip_of, tips_of}
use Rattle.vc_push_rules.specs.declared.stage.Stage.{Stage}
use Rattle.vc_push_rules.specs.declared.stage.Verdict.{Verdict}
use Rattle.vc_push_rules.specs.declared.stage.Verdict.TheVariants.{Accepted}
use Rattle.vc_shared.specs.Laws.{DueIsLearnt, SetIsDue}

set_first : (c d : CommandText) (v : Verdict) → Some d ≡ Some c → Some v ≡ Some Accepted → Contains (tip_of d v) c.new
set_first c d v at set =
    let same : d ≡ c = cc in
    let is : v ≡ Accepted = cc in
    subst (λ (w : Verdict). Contains (tip_of d w) c.new) (sym is) (subst (λ (e : CommandText). Contains (tip_of e Accepted) c.new) (sym same) (Contains-push [] c.new))

set_among : (cs : List CommandText) (vs : List Verdict) (k : ℕ) (c : CommandText) → slice_get cs k ≡ Some c → slice_get vs k ≡ Some Accepted → Contains (tips_of cs vs) c.new
set_among [] vs k c at set = absurd (cc)
set_among (d ∷ ds) [] k c at set = absurd (cc)
set_among (d ∷ ds) (v ∷ vs) zero c at set = Contains-append_left (tip_of d v) (tips_of ds vs) c.new (set_first c d v at set)
set_among (d ∷ ds) (v ∷ vs) (suc k) c at set = Contains-append_right (tip_of d v) (tips_of ds vs) c.new (set_among ds vs k c at set)

pub set_due : SetIsDue
set_due content s known now k c done at set learns =
    let told = subst (λ (stage : Stage). LearnsAt content s known.due now.due known.generations now.generations stage) done learns in
    subst (λ (due : List ObjectId). Contains due c.new) (sym told.1) (Contains-append_right known.due (tips_of s.commands s.verdicts) c.new (set_among s.commands s.verdicts k c at set))

pub due_learnt : DueIsLearnt
due_learnt content s known now x n unpacked of learns =
    let told = subst (λ (stage : Stage). LearnsAt content s known.due now.due known.generations now.generations stage) unpacked learns in
    (told.0 x n).1 (inr of)
