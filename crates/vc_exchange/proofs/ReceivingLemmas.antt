-- What a report accepts and what it refuses, command by command, and the deed of the machine's clone at it.
use Rattle.std.proofs.Common.{◌≡◌, ℕ, ◌<◌, ◌+◌, List, ◌∷◌, ◌++◌, length, take, get_or, map, None, Result, Ok, Err, inl, append_assoc, refl, sym, ap, ◌∙◌, subst, []}
use Rattle.std.proofs.lemmas.List.{take_more}
use Rattle.std.specs.FinMap.{empty}
use Rattle.std.specs.Prelude.{IfErr}
use Rattle.vc_files.proofs.FileMapLemmas.{outside_same}
use Rattle.vc_files.specs.FileMap.{FileMap, SameOutside}
use Rattle.vc_message.specs.Machine.{IsReport, machine_told}
use Rattle.vc_model.specs.Clone.{Awaited, Moves, MovesBranch, Receives, accepted_ids, quietly, refused_reasons}
use Rattle.vc_model.specs.Message.{Message}
use Rattle.vc_model.specs.Node.Reply.{Reported}
use Rattle.vc_model.specs.Object.{Id, stored}
use Rattle.vc_model.specs.Refs.{RefName}
use Rattle.vc_model.specs.Repository.{Change, IsSound, Repository, only_changes}
use Rattle.vc_model.proofs.Maps.{none_added}
use Rattle.vc_object.specs.declared.id.ObjectId.{ObjectId}
use Rattle.vc_push.specs.Report.{ReportText, ToldText}
use Rattle.vc_push.specs.ReportView.{told_of}
use Rattle.vc_push.specs.declared.report.Told.{Told as Command}
use Rattle.vc_rules.specs.Git.{git}
use Rattle.vc_exchange.specs.Deeds.{ChangesAt, IsCutShort, IsReceived}
use Rattle.vc_tracking.specs.Moving.{AreFrontMoved, AreMoved, MovesSome, Told, machine_refs}
use Rattle.vc_exchange.specs.Receiving.{AcceptedAgree, BlamesAdvert, accepted}
use Rattle.vc_exchange.specs.Wanting.{BlamesWanting}
use Rattle.vc_tracking.specs.declared.fault.ExchangeFault.{ExchangeFault}
use Rattle.vc_tracking.specs.declared.moving.Followed.TheVariants.{Branches}
use Rattle.vc_exchange.specs.declared.receiving.Advertised.{Advertised}
use Rattle.vc_exchange.proofs.DeedLemmas.{all_received, front_received, some_received}

pub accepted_agree : AcceptedAgree
accepted_agree [] = refl
accepted_agree (t ∷ ts) = by t.outcome (accepted_agree ts)
  where
    by : (o : Result ObjectId (List ℕ)) → accepted_ids (map machine_told ts) ≡ machine_refs (accepted ts) → accepted_ids (map machine_told (record { name = t.name; outcome = o } ∷ ts)) ≡ machine_refs (accepted (record { name = t.name; outcome = o } ∷ ts))
    by (Ok id) rest = ap (λ l. (t.name, id.0) ∷ l) rest
    by (Err reason) rest = rest

first_accepted : (t : ToldText) (ts : List ToldText) → accepted (t ∷ ts) ≡ accepted (t ∷ []) ++ accepted ts
first_accepted t ts = by t.outcome
  where
    by : (o : Result ObjectId (List ℕ)) → accepted (record { name = t.name; outcome = o } ∷ ts) ≡ accepted (record { name = t.name; outcome = o } ∷ []) ++ accepted ts
    by (Ok id) = refl
    by (Err reason) = refl

accepted_append : (a b : List ToldText) → accepted (a ++ b) ≡ accepted a ++ accepted b
accepted_append [] b = refl
accepted_append (t ∷ a) b = first_accepted t (a ++ b) ∙ ap (λ (l : List Told). accepted (t ∷ []) ++ l) (accepted_append a b) ∙ sym (append_assoc (accepted (t ∷ [])) (accepted a) (accepted b)) ∙ ap (λ (l : List Told). l ++ accepted b) (sym (first_accepted t a))

map_append : (a b : List Command) → map told_of (a ++ b) ≡ map told_of a ++ map told_of b
map_append [] b = refl
map_append (x ∷ a) b = ap (λ (l : List ToldText). told_of x ∷ l) (map_append a b)

-- those so far, and the next one
pub next_accepted : (told : List Command) (i : ℕ) (command : Command) → i < length told → command ≡ get_or told i command → accepted (map told_of (take i told)) ++ accepted (told_of command ∷ []) ≡ accepted (map told_of (take (i + 1) told))
next_accepted told i command within is =
    sym (accepted_append (map told_of (take i told)) (told_of command ∷ [])) ∙ ap accepted (sym (map_append (take i told) (command ∷ []))) ∙ ap (λ (x : Command). accepted (map told_of (take i told ++ x ∷ []))) is
    ∙ ap (λ (l : List Command). accepted (map told_of l)) (sym (take_more told i command within))

-- ---- what is refused
abbrev refused : List ToldText → List ℕ
refused told = refused_reasons (map machine_told told)

first_refused : (t : ToldText) (ts : List ToldText) → refused (t ∷ ts) ≡ refused (t ∷ []) ++ refused ts
first_refused t ts = by t.outcome
  where
    by : (o : Result ObjectId (List ℕ)) → refused (record { name = t.name; outcome = o } ∷ ts) ≡ refused (record { name = t.name; outcome = o } ∷ []) ++ refused ts
    by (Ok id) = refl
    by (Err reason) = refl

refused_append : (a b : List ToldText) → refused (a ++ b) ≡ refused a ++ refused b
refused_append [] b = refl
refused_append (t ∷ a) b = first_refused t (a ++ b) ∙ ap (λ (l : List ℕ). refused (t ∷ []) ++ l) (refused_append a b) ∙ sym (append_assoc (refused (t ∷ [])) (refused a) (refused b)) ∙ ap (λ (l : List ℕ). l ++ refused b) (sym (first_refused t a))

-- the numbers so far, and that of the next one where it is refused
pub next_refused : (told : List Command) (i : ℕ) (command : Command) → i < length told → command ≡ get_or told i command → refused (map told_of (take i told)) ++ refused (told_of command ∷ []) ≡ refused (map told_of (take (i + 1) told))
next_refused told i command within is =
    sym (refused_append (map told_of (take i told)) (told_of command ∷ [])) ∙ ap refused (sym (map_append (take i told) (command ∷ []))) ∙ ap (λ (x : Command). refused (map told_of (take i told ++ x ∷ []))) is
    ∙ ap (λ (l : List Command). refused (map told_of l)) (sym (take_more told i command within))

-- ---- the deed
module _ (r : Repository) (known : Type 0) (sound : IsSound git r → known) (awaits : Awaited) (m : Message) (t : ReportText) (report : IsReport m t) (told : List Told) (is : told ≡ accepted t.told) (numbers : List ℕ) (are : numbers ≡ refused t.told) where
  takes : IsSound git r → (cs : List Change) → Moves (MovesBranch git (stored r.objects)) r.refs (machine_refs told) cs → Receives git r awaits m (quietly awaits (only_changes cs) (Reported (length cs) numbers))
  takes is_sound cs moves = subst (λ (x : Message). Receives git r awaits x (quietly awaits (only_changes cs) (Reported (length cs) numbers))) (sym report.is) (
    cs,
    subst (λ (l : List (RefName × Id)). Moves (MovesBranch git (stored r.objects)) r.refs l cs) (ap machine_refs is ∙ sym (accepted_agree t.told)) moves,
    ap (λ (ns : List ℕ). quietly awaits (only_changes cs) (Reported (length cs) ns)) are,
  )

  pub report_received : (new : FileMap) (moved : ℕ) → AreMoved known Branches told r new moved → IsReceived r awaits m new awaits None (Reported moved numbers)
  report_received = all_received Branches told r empty r.objects (none_added r.objects) (stored r.objects) refl awaits m awaits (λ n. Reported n numbers) known sound takes

  pub report_cut : (new : FileMap) → AreFrontMoved known Branches told r new → IsCutShort r awaits m new
  report_cut = front_received Branches told r empty r.objects (none_added r.objects) (stored r.objects) refl awaits m awaits (λ n. Reported n numbers) known sound takes

  pub report_changes : (known → MovesSome Branches told r) → IsSound git r → ChangesAt r awaits m
  report_changes = some_received Branches told r empty r.objects (none_added r.objects) (stored r.objects) refl awaits m awaits (λ n. Reported n numbers) known sound takes

-- ---- where nothing is changed
pub outside_kept : {prefix : List ℕ} (old new : FileMap) → new ≡ old → SameOutside prefix old new
outside_kept {prefix = prefix} old new same = subst (λ (f : FileMap). SameOutside prefix old f) (sym same) (outside_same prefix old)

pub wanting_kept : (old seen : FileMap) (e : ExchangeFault) (r : Result Advertised ExchangeFault) → seen ≡ old → r ≡ Err e → BlamesWanting seen e → IfErr r (BlamesAdvert old)
wanting_kept old seen e (Ok a) same is why = tt
wanting_kept old seen e (Err f) same is why =
    let told : f ≡ e = cc is in
    subst (BlamesAdvert old) (sym told) (inl (subst (λ (c : FileMap). BlamesWanting c e) same why))
