-- The values of expressions, and how two of them compare.
use Rattle.std.proofs.Common.{◌≡◌, ◌≢◌, ℕ, List, None, Result, Ok, Err, ◌⊎◌, inl, inr, refl, sym, ap, subst}
use Rattle.vc_events.specs.Answers.{Shows, answer_of}
use Rattle.vc_events.specs.declared.answers.Deed.{Deed}
use Rattle.vc_events.specs.declared.answers.Deed.TheVariants as deed
use Rattle.vc_events.specs.declared.answers.Ended.{Ended}
use Rattle.vc_events.specs.declared.answers.Ended.TheVariants as ended
use Rattle.vc_events.specs.declared.answers.Told.TheVariants as told
use Rattle.vc_format.specs.Git.{bytes_of_id}
use Rattle.vc_model.specs.Node.{Answer}
use Rattle.vc_model.specs.Node.Answer.{Declined, Did, Fault}
use Rattle.vc_model.specs.Node.Failure.{Device}
use Rattle.vc_model.specs.Node.Reply.{Differs, Found, Same}
use Rattle.vc_model.specs.Object.{Id}
use Rattle.vc_model.specs.Question.{found}
use Rattle.vc_model.specs.Repository.{Repository}
use Rattle.vc_object.specs.declared.id.ObjectId.{ObjectId}
use Rattle.vc_values.proofs.GitLaws.{git_rules}
use Rattle.vc_simulation.specs.Values.{IsNoValue, IsValue}

-- a value that is found is one
pub found_is : (r : Repository) (text : List ℕ) (id : ObjectId) (v : Result Id ℕ) → git_rules.denotes r text v → Did (Found (bytes_of_id id)) ≡ found v → IsValue text id r
found_is r text id (Ok x) denotes is = let e : bytes_of_id id ≡ x = cc in subst (λ (x : Id). git_rules.denotes r text (Ok x)) (sym e) denotes
found_is r text id (Err k) denotes is = absurd (cc)

-- one that is refused has a number
pub refused_is : (r : Repository) (text : List ℕ) (e : Ended) (v : Result Id ℕ) → git_rules.denotes r text v → answer_of e ≡ found v → (k : ℕ) × IsNoValue text r k × (answer_of e ≡ Declined k)
refused_is r text (ended.Refused n) (Ok x) denotes is = absurd (cc)
refused_is r text (ended.Fault f) (Ok x) denotes is = absurd (cc)
refused_is r text e (Err k) denotes is = (k, denotes, is)

-- what is answered where both expressions have values: whether they are one
pub comparison : (x y : ObjectId) (d : Deed) → ((x ≡ y) × (d ≡ deed.Same)) ⊎ ((bytes_of_id x ≢ bytes_of_id y) × (d ≡ deed.Differs)) → (a : Answer) × Shows (Ok (told.Did d)) a None × (a ≢ Fault Device)
    × (((n : ℕ) × (◌≡◌ {A = Result Id ℕ} (Ok (bytes_of_id y)) (Err n)) × (a ≡ Declined n)) ⊎ (((◌≡◌ {A = Result Id ℕ} (Ok (bytes_of_id y)) (Ok (bytes_of_id x))) × (a ≡ Did Same)) ⊎ ((z : Id) × (◌≡◌ {A = Result Id ℕ} (Ok (bytes_of_id y)) (Ok z)) × (bytes_of_id x ≢ z) × (a ≡ Did Differs))))
comparison x y d (inl h) = (
  Did Same,
  subst (λ (d : Deed). Shows (Ok (told.Did d)) (Did Same) None) (sym h.1) (tt, record { answer = refl; sent = refl }),
  (λ h. absurd (cc)),
  inr (inl (ap (λ (z : ObjectId). Ok (bytes_of_id z)) (sym h.0), refl)),
)
comparison x y d (inr h) = (
  Did Differs,
  subst (λ (d : Deed). Shows (Ok (told.Did d)) (Did Differs) None) (sym h.1) (tt, record { answer = refl; sent = refl }),
  (λ h. absurd (cc)),
  inr (inr (bytes_of_id y, refl, h.0, refl)),
)
