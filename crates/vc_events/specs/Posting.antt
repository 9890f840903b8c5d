-- What is answered in the world where a node answered a call, and what is posted.
use Rattle.std.proofs.Common.{set}
use Rattle.std.specs.Global.{Global}
use Rattle.std.specs.Prelude.{◌≡◌, ℕ, nat_lt, List, [], ◌∷◌, ◌++◌, Result, Ok, Err, Vec, length, if◌then◌else◌}
use Rattle.vc_events.specs.Answers.{of_end}
use Rattle.vc_events.specs.declared.answers.Answer.{Answer as WorldAnswer}
use Rattle.vc_events.specs.declared.answers.Answer.TheVariants as answer
use Rattle.vc_events.specs.declared.answers.Deed.{Deed}
use Rattle.vc_events.specs.declared.answers.Deed.TheVariants as deed
use Rattle.vc_events.specs.declared.answers.Ended.{Ended}
use Rattle.vc_events.specs.declared.answers.Told.{Told}
use Rattle.vc_events.specs.declared.answers.Told.TheVariants as told
use Rattle.vc_events.specs.declared.letters.Letter.{Letter}
use Rattle.vc_events.specs.declared.letters.Letter.TheVariants as letter
use Rattle.vc_model.specs.Shared.{slot_count}

abbrev pub to_shared : ℕ → Vec ℕ Global → Letter
to_shared c bytes = letter.ToShared c bytes

abbrev pub to_clone : ℕ → Vec ℕ Global → Letter
to_clone c bytes = letter.ToClone c bytes

-- nothing is posted
pub record PostsNone (said : WorldAnswer) (old new : List Letter) (a : WorldAnswer) : Type 0 where
  pub letters : new ≡ old
  pub answer : a ≡ said

-- one letter is posted, after the others
pub record PostsOne (l : Letter) (old new : List Letter) (a : WorldAnswer) : Type 0 where
  pub letters : new ≡ old ++ l ∷ []
  pub answer : a ≡ answer.Sent (length old)

abbrev pub PostsTold : (Vec ℕ Global → Letter) → Result Told Ended → List Letter → List Letter → WorldAnswer → Type 0
PostsTold to (Ok (told.Did d)) old new a = PostsNone (answer.Did d) old new a
PostsTold to (Ok (told.Sends bytes)) old new a = PostsOne (to bytes) old new a
PostsTold to (Err e) old new a = PostsNone (of_end e) old new a

-- the clone whose push was opened in each slot last, where this clone's may have been opened now
abbrev pub senders_done : ℕ → Deed → List ℕ → List ℕ
senders_done c (deed.Opened k) senders = if nat_lt k slot_count then set senders k c else senders
senders_done c _ senders = senders

abbrev pub senders_told : ℕ → Result Told Ended → List ℕ → List ℕ
senders_told c (Ok (told.Did d)) senders = senders_done c d senders
senders_told c (Ok (told.Sends bytes)) senders = senders
senders_told c (Err e) senders = senders
