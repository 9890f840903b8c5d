-- What is printed of a script that was not played to its end, or not told to it: for `print_played`.
use Rattle.std.proofs.Common.{◌≡◌, ◌∙◌, ◌⊎◌, ℕ, List, [], inl, inr, subst}
use Rattle.std.specs.Prelude.{Option}
use Rattle.vc_cli.proofs.PrintLemmas.{front_of_none}
use Rattle.vc_cli.specs.Printed.{AppendsFront, PrintsFront}
use Rattle.vc_playing.specs.PlayedWorld.{PrintsFirst}
use Rattle.vc_simulation.specs.Playing.{Plays, PlaysFront}

-- of a script that was played
pub front_of_all : (script : List ℕ) (before after : Option (List ℕ)) (none lines : List ℕ) → none ≡ [] → Plays script none lines → AppendsFront before after lines → PrintsFront (PrintsFirst script) before after
front_of_all script before after none lines empty plays front = inr (record {
  lines = lines;
  plays = inl (subst (λ (old : List ℕ). Plays script old lines) empty plays);
  text = front;
})

-- and of one that was not, or not to its end
pub front_of_first : (script : List ℕ) (before after : Option (List ℕ)) (none lines : List ℕ) → none ≡ [] → (lines ≡ none) ⊎ PlaysFront script none lines → AppendsFront before after lines → PrintsFront (PrintsFirst script) before after
front_of_first script before after none lines empty (inl same) front = inl (front_of_none before after (subst (λ (l : List ℕ). AppendsFront before after l) (same ∙ empty) front))
front_of_first script before after none lines empty (inr plays) front = inr (record {
  lines = lines;
  plays = inr (subst (λ (old : List ℕ). PlaysFront script old lines) empty plays);
  text = front;
})
