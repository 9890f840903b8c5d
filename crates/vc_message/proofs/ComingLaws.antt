-- What came of a reader: some of a message where one is begun, and, where a message is first of what the reader has, no other.
use Rattle.std.proofs.Common.{◌≡◌, ℕ, List, [], ◌∷◌, ◌++◌, Option, Some, sym, subst}
use Rattle.std.proofs.KnownBytes.{Consumes-nil}
use Rattle.vc_model.specs.Message.{Message}
use Rattle.vc_pkt.proofs.FaultLaws.{one_message}
use Rattle.vc_pkt.specs.Message.{GivenBy, IsSpelledBy}
use Rattle.vc_pkt.specs.declared.fault.PktFault.{PktFault}
use Rattle.vc_message.proofs.AnyLaws.{any_given}
use Rattle.vc_message.proofs.IncomingFronts.{no_fault_taken, not_nothing, one_message_taken}
use Rattle.vc_message.proofs.IncomingLaws.{on_loss}
use Rattle.vc_message.proofs.StreamingLaws.{so_far}
use Rattle.vc_message.specs.AnyMessage.{AnyState, MessageText, any_step, any_step_own, beginning}
use Rattle.vc_message.specs.Coming.{IsCome, TakesPart, a_message, no_message, nothing_came}
use Rattle.vc_message.specs.Incoming.{IsWithinLine}
use Rattle.vc_message.specs.Machine.{Reads, TextOf}
use Rattle.vc_message.specs.Streaming.{LeadsTo}
use Rattle.vc_message.specs.declared.incoming_fault.IncomingFault.TheVariants as incoming

pub rest_of_none : (x y : List ℕ) → [] ≡ x ++ y → y ≡ []
rest_of_none [] y e = sym e
rest_of_none (b ∷ x) y e = absurd (cc e)

-- nothing more is within any line
nothing_within : IsWithinLine []
nothing_within front more e some = absurd (some (rest_of_none front more e))

-- where a message is begun, some of it was taken
pub part_taken : (before now : Option (List ℕ)) (place number : ℕ) (s : AnyState) → LeadsTo any_step beginning before now place number s → TakesPart before now
part_taken before now place number s leads =
    on_loss any_step any_step_own beginning before now now [] place number s (so_far any_step any_step_own beginning before now place number s leads) (Consumes-nil now, nothing_within) incoming.Failed tt

-- a message that is first of what the reader has
module _ (left : Option (List ℕ)) (bytes rest : List ℕ) (m : Message) (reads : Reads bytes m) where
  given : IsSpelledBy (GivenBy any_step beginning) reads.text bytes
  given = let s = reads.spelled in (s.0, s.1, any_given reads.text s.0 s.2)

  -- it is what was taken
  pub text_taken : (text : MessageText) → IsCome (Some (bytes ++ rest)) left (a_message text) → TextOf m text × (left ≡ Some rest)
  text_taken text ((taken, takes, (lines, each, spelled)), named) =
      let g = given in
      let end = one_message_taken any_step beginning bytes rest reads.text g.0 g.1 g.2 left taken text takes (lines, each, any_given text lines spelled) in
      let same = one_message any_step beginning bytes reads.text g.0 g.1 g.2 text (subst (λ (b : List ℕ). IsSpelledBy (GivenBy any_step beginning) text b) end.0 (lines, each, any_given text lines spelled)) in
      (subst (TextOf m) same reads.is, end.1)

  -- it is more than nothing
  pub some_taken : IsCome (Some (bytes ++ rest)) left nothing_came → ⊥
  some_taken none = let g = given in not_nothing any_step beginning bytes rest reads.text g.0 g.1 g.2 left none

  -- and nothing is wrong with it
  pub none_wrong : (fault : PktFault) → IsCome (Some (bytes ++ rest)) left (no_message fault) → ⊥
  none_wrong fault come = let g = given in no_fault_taken any_step beginning bytes rest reads.text g.0 g.1 g.2 left fault come
