-- What is told of the commands of a push, one after another.
use Rattle.std.proofs.Common.{◌≡◌, ℕ, ◌<◌, false, List, [], ◌∷◌, ◌++◌, length, get_or, sym, ◌∙◌, true≢false}
use Rattle.std.specs.List.{list_any}
use Rattle.std.proofs.lemmas.Bool.{false_from_ne_true}
use Rattle.std.proofs.lemmas.List.Folds.{list_any_at}
use Rattle.vc_push.specs.Push.{CommandText}
use Rattle.vc_push.specs.Report.{ToldText}
use Rattle.vc_push_rules.specs.Session.{is_passing}
use Rattle.vc_push_rules.specs.Steps.{Tells, TellsAll}
use Rattle.vc_push_rules.specs.declared.stage.Verdict.{Verdict}

-- one more command
pub tells-push : (cs : List CommandText) (vs : List Verdict) (ts : List ToldText) (c : CommandText) (v : Verdict) (t : ToldText) → TellsAll cs vs ts → Tells c v t → TellsAll (cs ++ c ∷ []) (vs ++ v ∷ []) (ts ++ t ∷ [])
tells-push [] [] [] c v t all one = (one, tt)
tells-push (d ∷ cs) (x ∷ vs) (y ∷ ts) c v t all one = (all.0, tells-push cs vs ts c v t all.1 one)
tells-push [] [] (y ∷ ts) c v t all one = absurd all
tells-push [] (x ∷ vs) ts c v t all one = absurd all
tells-push (d ∷ cs) [] ts c v t all one = absurd all
tells-push (d ∷ cs) (x ∷ vs) [] c v t all one = absurd all

-- where none passes, none does at any place
pub settled_at : (vs : List Verdict) (i : ℕ) (d : Verdict) → i < length vs → list_any is_passing vs ≡ false → is_passing (get_or vs i d) ≡ false
settled_at vs i d within none = false_from_ne_true _ (λ yes. true≢false (sym (list_any_at is_passing vs i d within yes) ∙ none))
