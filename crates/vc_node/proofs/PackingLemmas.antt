-- What a clone answers to the question to pack its refs is the machine's answer: it is the node that it was, or one that is down.
use Rattle.std.proofs.Common.{◌≡◌, inl, inr, ℕ, Bool, true, false, List, None, Result, Ok, Err, refl, sym, ap, ◌∙◌, subst}
use Rattle.std.specs.Prelude.{IfErr, OnOk}
use Rattle.vc_files.specs.FileMap.{FileMap}
use Rattle.vc_files.specs.declared.faults.Fault.{Fault as FilesFault}
use Rattle.vc_model.specs.CloneCall.{CloneAnswers}
use Rattle.vc_model.specs.CloneCall.CloneCall.{Asks}
use Rattle.vc_model.specs.Node.Answer.{Declined, Did, Fault}
use Rattle.vc_model.specs.Node.Reply.{Stored}
use Rattle.vc_model.specs.Question.Question.{PackRefs}
use Rattle.vc_refs.specs.Packing.{IsPackedFrom}
use Rattle.vc_refs.specs.RefMap.{IsFolder, IsRefMap}
use Rattle.vc_refs.specs.Refs.{refs}
use Rattle.vc_refs.specs.declared.faults.RefFault.TheVariants as ref
use Rattle.vc_rules.proofs.RefLemmas.{apart_from_map, folder_apart}
use Rattle.vc_node.specs.Awaited.{AwaitedText}
use Rattle.vc_local.specs.Blames.{BlamesPacking}
use Rattle.vc_local.specs.Clean.{IsClean}
use Rattle.vc_node.specs.CloneCalls.{AnswersClone, MayOr}
use Rattle.vc_local.specs.Machine.{Spells, failure_of, live_of, up_after}
use Rattle.vc_local.specs.Shown.{Shown, shown}
use Rattle.vc_local.specs.Told.{RestartedAs}
use Rattle.vc_local.specs.declared.fault.NodeFault.{NodeFault}
use Rattle.vc_local.specs.declared.fault.NodeFault.TheVariants.{BadIndex, BadPath, Down, Missing, NotACommit, PathConflict, Ref, Store, WrongEntry}

module _ (old new : FileMap) (waits : AwaitedText) (kept : shown new ≡ shown old) (clean : IsClean old → IsClean new) where
  pub packed_answers : IsRefMap (refs old) → AnswersClone (Asks PackRefs) (RestartedAs (Ok tt)) old new waits waits true true
  packed_answers map = record {
    each = λ awaited n waited held. (
      awaited,
      n,
      Did Stored,
      None,
      waited,
      record { shows = record { spells = subst (λ (s : Shown). Spells s n.repository) (sym kept) held.shows.spells; live = held.shows.live }; clean = clean held.clean },
      record { answer = refl; sent = refl },
      λ sound. CloneAnswers.asked awaited PackRefs held.shows.live refl (inl (apart_from_map (refs old) n.repository.refs held.shows.spells.refs map, refl)) refl refl,
    );
  }

  -- refs of which one is a folder of another are no more apart in the machine
  pub conflict_answers : (other : List ℕ) → IsFolder (refs old) other → AnswersClone (Asks PackRefs) (RestartedAs (Err (Ref (ref.Conflict other)))) old new waits waits true true
  conflict_answers other folder = record {
    each = λ awaited n waited held. (
      awaited,
      n,
      Declined 32,
      None,
      waited,
      record { shows = record { spells = subst (λ (s : Shown). Spells s n.repository) (sym kept) held.shows.spells; live = held.shows.live }; clean = clean held.clean },
      record { answer = refl; sent = refl },
      λ sound. CloneAnswers.asked awaited PackRefs held.shows.live refl (inr (folder_apart (refs old) n.repository.refs held.shows.spells.refs other folder, refl)) refl refl,
    );
  }

  -- clean files are not to blame, so a refusal is a conflict or a fault
  pub unpacked_answers : (f : FilesFault) → AnswersClone (Asks PackRefs) (RestartedAs (Err (Ref (ref.Fault f)))) old new waits waits true false
  unpacked_answers f = record {
    each = λ awaited n waited held. (
      awaited,
      record { repository = n.repository; live = None },
      Fault (failure_of f),
      None,
      waited,
      record { shows = record { spells = subst (λ (s : Shown). Spells s n.repository) (sym kept) held.shows.spells; live = refl }; clean = clean held.clean },
      record { answer = refl; sent = refl },
      λ sound. CloneAnswers.faulted awaited (failure_of f) held.shows.live (λ never. cc never) refl refl refl,
    );
  }

  -- whatever it tells
  pub packing_answers : (result : Result (Unit {0}) NodeFault) → OnOk result (IsPackedFrom old new) → IfErr result (BlamesPacking old) → AnswersClone (Asks PackRefs) (RestartedAs result) old new waits waits true (up_after result)
  packing_answers (Ok u) packed told = packed_answers packed.apart
  packing_answers (Err (Ref (ref.Fault f))) packed told = unpacked_answers f
  packing_answers (Err (Ref (ref.BadRefFile path))) packed first = record { each = λ awaited n waited held. absurd (held.clean.refs _ first.bad) }
  packing_answers (Err (Ref (ref.Stale current))) packed told = absurd told
  packing_answers (Err (Ref (ref.Conflict other))) packed told = conflict_answers other told.1.here
  packing_answers (Err (Ref ref.HeadLoop)) packed told = absurd told
  packing_answers (Err (Store e)) packed told = absurd told
  packing_answers (Err (Missing id)) packed told = absurd told
  packing_answers (Err (NotACommit id)) packed told = absurd told
  packing_answers (Err BadPath) packed told = absurd told
  packing_answers (Err PathConflict) packed told = absurd told
  packing_answers (Err (BadIndex place)) packed told = absurd told
  packing_answers (Err (WrongEntry at)) packed told = absurd told
  packing_answers (Err Down) packed told = absurd told

-- a node that is up may write
pub packing_may : {IsLook : Type 0} (waits : AwaitedText) (was : Bool) (content : FileMap) → was ≡ true → MayOr (Asks PackRefs) waits was content IsLook
packing_may waits was content up = λ awaited n waiting held. inl (λ sound. (awaited, held.shows.live ∙ ap (λ (u : Bool). live_of u awaited) up, tt))
