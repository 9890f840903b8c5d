-- A text that is written is known from the machine's message, where that is plain.
use Rattle.std.proofs.Common.{◌≡◌, ◌≢◌, ℕ, Bool, true, false, cond, List, [], ◌∷◌, map, Option, Some, None, Result, Ok, Err, refl, ap, sym, ◌∙◌, subst, inl, inr, ◌&&◌}
use Rattle.std.specs.Prelude.{find, option_map, ◌==◌, T}
use Rattle.std.specs.FinMap.{entries, entries_sorted, from_entries, get, get-entries, same_map}
use Rattle.std.specs.FinMap as finite
use Rattle.std.specs.FinMap.Entries.{below_all, is_sorted, same_entries}
use Rattle.std.specs.List.{AllByRecursion}
use Rattle.std.specs.List.Sorted.{IsStrictlySortedBy}
use Rattle.std.specs.Ordering.{eq_by_cmp, is_lt, nat_cmp}
use Rattle.std.specs.Cmp.Lexicographic.{nat_list_cmp_total, slice_cmp}
use Rattle.std.specs.declared.cmp.Ordering.TheVariants.{Less}
use Rattle.vc_format.specs.Git.{bytes_of_id, id_of_bytes}
use Rattle.vc_object.specs.Decoding.{StoredObject}
use Rattle.vc_object.specs.ObjectId.{IsSortedByName, id_cmp}
use Rattle.vc_object.specs.declared.id.ObjectId.{ObjectId}
use Rattle.vc_pkt.specs.Carried.{object_named, stored_name}
use Rattle.vc_pkt.proofs.CarriedOnce.{none_sorted}
use Rattle.vc_fetch.specs.Advert.{AdvertText, RefIds}
use Rattle.vc_fetch.specs.Pack.{is_object}
use Rattle.vc_push.specs.Push.{Carried, CommandText, IsWrittenCarried, PushText, only_deletes}
use Rattle.vc_push.specs.Reason.{all_reasons, number_or_zero, reason_number, reason_of, reason_text}
use Rattle.vc_push.specs.Report.{ReportText, ToldText, unpack_error}
use Rattle.vc_push.specs.declared.reason.Reason.{Reason}
use Rattle.vc_push.specs.declared.reason.Reason.TheVariants.{AlreadyExists, AtomicFailure, BadName, DeletionProhibited, MissingObjects, NameConflict, NonFastForward, NotACommit, OutsideRefs, Stale, UnpackerError}
use Rattle.vc_push.proofs.Reasons.{reason_some}
use Rattle.vc_model.specs.Message.{Message, Told}
use Rattle.vc_model.specs.Message.Message.{Advert, Error, ListRefs, Pack, Push, Report, Want}
use Rattle.vc_model.specs.Object.{Id, Objects}
use Rattle.vc_model.specs.Push.{Command}
use Rattle.vc_model.specs.Refs.{RefName, Refs}
use Rattle.vc_model.proofs.Maps.{bytes_same}
use Rattle.vc_rules.specs.Git.{stored_of}
use Rattle.vc_rules.specs.OpenPushes.{AreBrought}
use Rattle.vc_rules.specs.Verdicts.{machine_command}
use Rattle.vc_message.specs.AnyMessage.{MessageText, a_list, a_pack, a_push, a_report, a_want, an_advert, an_error, IsWrittenMessage}
use Rattle.vc_message.specs.Machine.{IsPlain, IsPush, IsRefusalOf, IsReport, IsUnpackedAs, TextOf, machine_outcome, machine_told}
use Rattle.vc_message.proofs.MachineTexts.{all_in, found_value, got_value, with_values}

-- ---- the parts of a text, from those of the machine's message
listed : Objects → List StoredObject
listed s = map (λ e. e.1) (with_values stored_of (entries s))

refs_back : Refs → RefIds
refs_back refs = from_entries (with_values id_of_bytes (entries refs))

command_back : Command → CommandText
command_back c = record { old = id_of_bytes c.old; new = id_of_bytes c.new; name = c.name }

text_of : Option Reason → List ℕ
text_of (Some r) = reason_text r
text_of None = []

reason_at : ℕ → Option Reason
reason_at n = find (λ r. reason_number r == n) all_reasons

outcome_back : Result Id ℕ → Result ObjectId (List ℕ)
outcome_back (Ok x) = Ok (id_of_bytes x)
outcome_back (Err n) = Err (text_of (reason_at n))

told_back : Told → ToldText
told_back t = record { name = t.name; outcome = outcome_back t.outcome }

pub text_back : Message → MessageText
text_back ListRefs = a_list
text_back (Advert head refs) = an_advert (record { head = option_map id_of_bytes head; refs = refs_back refs })
text_back (Want wants haves) = a_want (record { wants = map id_of_bytes wants; haves = map id_of_bytes haves })
text_back (Pack ack s) = a_pack (record { ack = option_map id_of_bytes ack; objects = listed s })
text_back (Push atomic refusal commands s) = a_push (record { atomic = atomic; commands = map command_back commands; carried = Ok (listed s) })
text_back (Report refusal told) = a_report (record { unpack = option_map unpack_error refusal; told = map told_back told })
text_back (Error words) = an_error words

-- ---- ids
ids_back : (ids : List ObjectId) → ids ≡ map id_of_bytes (map bytes_of_id ids)
ids_back [] = refl
ids_back (id ∷ ids) = ap (λ (rest : List ObjectId). id ∷ rest) (ids_back ids)

id_back : (id : Option ObjectId) → id ≡ option_map id_of_bytes (option_map bytes_of_id id)
id_back None = refl
id_back (Some id) = refl

-- ---- sets of objects
by_name : List StoredObject → List (Id × StoredObject)
by_name [] = []
by_name (o ∷ os) = ((stored_name o).0, o) ∷ by_name os

below_names : (o : StoredObject) (os : List StoredObject) → AllByRecursion (λ y. id_cmp (stored_name o) y ≡ Less) (map stored_name os) → below_all (slice_cmp nat_cmp) (stored_name o).0 (by_name os) ≡ true
unfolding by_name
below_names o [] all = refl
below_names o (p ∷ ps) all = ap (λ c. is_lt c && below_all (slice_cmp nat_cmp) (stored_name o).0 (by_name ps)) all.0 ∙ below_names o ps all.1

names_rise : (os : List StoredObject) → IsSortedByName (map stored_name os) → is_sorted (slice_cmp nat_cmp) (by_name os) ≡ true
unfolding by_name IsStrictlySortedBy
names_rise [] sorted = refl
names_rise (o ∷ os) sorted = ap (λ b. b && is_sorted (slice_cmp nat_cmp) (by_name os)) (below_names o os sorted.0) ∙ names_rise os sorted.1

below_values : {A B : Type 0} (f : A → B) (n : RefName) (es : List (RefName × A)) → below_all (slice_cmp nat_cmp) n (with_values f es) ≡ below_all (slice_cmp nat_cmp) n es
unfolding with_values
below_values f n [] = refl
below_values f n (e ∷ es) = ap (λ b. is_lt (slice_cmp nat_cmp n e.0) && b) (below_values f n es)

values_rise : {A B : Type 0} (f : A → B) (es : List (RefName × A)) → is_sorted (slice_cmp nat_cmp) (with_values f es) ≡ is_sorted (slice_cmp nat_cmp) es
unfolding with_values
values_rise f [] = refl
values_rise f (e ∷ es) = ap (λ b. b && is_sorted (slice_cmp nat_cmp) (with_values f es)) (below_values f e.0 es) ∙ ap (λ b. below_all (slice_cmp nat_cmp) e.0 es && b) (values_rise f es)

found_named : (x : Id) (os : List StoredObject) → finite.find (slice_cmp nat_cmp) x (by_name os) ≡ object_named (id_of_bytes x) os
unfolding by_name
found_named x [] = refl
found_named x (o ∷ os) = ap (λ rest. cond (eq_by_cmp (slice_cmp nat_cmp) x (stored_name o).0) (Some o) rest) (found_named x os)

objects_of_names : (os : List StoredObject) → os ≡ map (λ e. e.1) (by_name os)
unfolding by_name
objects_of_names [] = refl
objects_of_names (o ∷ os) = ap (λ rest. o ∷ rest) (objects_of_names os)

-- a set that is written is what the machine's objects are, in order of name
set_back : (objects : List StoredObject) (s : Objects) → IsSortedByName (map stored_name objects) → AllByRecursion (λ o. is_object o ≡ true) objects → AreBrought (Ok objects) s → objects ≡ listed s
unfolding listed
set_back objects s sorted all brought =
    objects_of_names objects
    ∙ ap (λ es. map (λ e. e.1) es)
    (same_entries (slice_cmp nat_cmp) nat_list_cmp_total bytes_same (by_name objects) (with_values stored_of (entries s))
    (subst T (sym (names_rise objects sorted)) tt)
    (subst T (sym (values_rise stored_of (entries s))) (entries_sorted s))
    (λ x. found_named x objects ∙ all_in objects (id_of_bytes x) all ∙ sym (brought x) ∙ ap (option_map stored_of) (get-entries s x) ∙ sym (found_value stored_of x (entries s))))

-- ---- kind by kind
commands_back : (commands : List CommandText) → commands ≡ map command_back (map machine_command commands)
unfolding command_back
commands_back [] = refl
commands_back (c ∷ cs) = ap (λ rest. c ∷ rest) (commands_back cs)

carried_back : (deletes : Bool) (c : Carried) (s : Objects) → IsWrittenCarried deletes c → IsRefusalOf c None → AreBrought c s → c ≡ Ok (listed s)
carried_back true c s none refused brought = none ∙ ap Ok (set_back [] s none_sorted tt (subst (λ d. AreBrought d s) none brought))
carried_back false (Ok objects) s (set, all) refused brought = ap Ok (set_back objects s set.sorted all brought)
carried_back false (Err bad) s written refused brought = absurd (let e = refused.2 in cc e)

number_back : (r : Reason) → reason_at (reason_number r) ≡ Some r
unfolding reason_at
number_back BadName = refl
number_back OutsideRefs = refl
number_back DeletionProhibited = refl
number_back MissingObjects = refl
number_back NotACommit = refl
number_back NonFastForward = refl
number_back AlreadyExists = refl
number_back NameConflict = refl
number_back Stale = refl
number_back UnpackerError = refl
number_back AtomicFailure = refl

text_again : (words : List ℕ) (found : Option Reason) → reason_of words ≡ found → number_or_zero found ≢ 0 → words ≡ text_of (reason_at (number_or_zero found))
unfolding text_of
text_again words None is other = absurd (other refl)
text_again words (Some r) is other = reason_some words r is ∙ ap text_of (sym (number_back r))

outcome_again : (o : Result ObjectId (List ℕ)) → machine_outcome o ≢ Err 0 → o ≡ outcome_back (machine_outcome o)
unfolding outcome_back
outcome_again (Ok id) plain = refl
outcome_again (Err words) plain = ap Err (text_again words (reason_of words) refl (λ zero. plain (ap Err zero)))

told_again : (told : List ToldText) → AllByRecursion (λ t. t.outcome ≢ Err 0) (map machine_told told) → told ≡ map told_back (map machine_told told)
unfolding told_back
told_again [] plain = refl
told_again (t ∷ ts) (one, others) =
    ap (λ o. record { name = t.name; outcome = o } ∷ ts) (outcome_again t.outcome one) ∙ ap (λ rest. told_back (machine_told t) ∷ rest) (told_again ts others)

unpack_again : (unpack : Option (List ℕ)) (refusal : Option ℕ) → refusal ≢ Some 0 → IsUnpackedAs unpack refusal → unpack ≡ option_map unpack_error refusal
unpack_again None refusal plain is = ap (option_map unpack_error) (sym is)
unpack_again (Some words) refusal plain (n, inl (low, same), is) = ap Some same ∙ ap (option_map unpack_error) (sym is)
unpack_again (Some words) refusal plain (n, inr (none, zero), is) = absurd (plain (is ∙ ap Some zero))

advert_back : (t : AdvertText) (refs : Refs) → ((n : RefName) → get refs n ≡ option_map bytes_of_id (get t.refs n)) → t.refs ≡ refs_back refs
unfolding refs_back
advert_back t refs same = same_map nat_list_cmp_total bytes_same t.refs _ (λ n. id_back (get t.refs n) ∙ ap (option_map id_of_bytes) (sym (same n)) ∙ sym (got_value id_of_bytes refs n))

push_back : (t : PushText) (m : Message) → IsWrittenMessage (a_push t) → IsPlain m → IsPush m t → a_push t ≡ text_back m
unfolding text_back
push_back t m written plain a =
    let whole : a.refusal ≡ None = subst IsPlain a.is plain in
    ap (λ c. a_push (record { atomic = t.atomic; commands = t.commands; carried = c })) (carried_back (only_deletes t.commands) t.carried a.objects written.carried (subst (λ r. IsRefusalOf t.carried r) whole a.refused) a.brought)
    ∙ ap (λ cs. a_push (record { atomic = t.atomic; commands = cs; carried = Ok (listed a.objects) })) (commands_back t.commands) ∙ ap text_back (sym a.is)

report_back : (t : ReportText) (m : Message) → IsPlain m → IsReport m t → a_report t ≡ text_back m
unfolding text_back
report_back t m plain a =
    let plainly = subst IsPlain a.is plain in
    ap (λ u. a_report (record { unpack = u; told = t.told })) (unpack_again t.unpack a.refusal plainly.0 a.unpacked)
    ∙ ap (λ ts. a_report (record { unpack = option_map unpack_error a.refusal; told = ts })) (told_again t.told plainly.1) ∙ ap text_back (sym a.is)

pub written_back : (t : MessageText) (m : Message) → IsWrittenMessage t → IsPlain m → TextOf m t → t ≡ text_back m
unfolding text_back
written_back a_list m written plain a = ap text_back (sym a)
written_back (an_advert t) m written plain a =
    ap (λ h. an_advert (record { head = h; refs = t.refs })) (id_back t.head)
    ∙ ap (λ r. an_advert (record { head = option_map id_of_bytes (option_map bytes_of_id t.head); refs = r })) (advert_back t a.refs a.same) ∙ ap text_back (sym a.is)
written_back (a_want t) m written plain a =
    ap (λ w. a_want (record { wants = w; haves = t.haves })) (ids_back t.wants) ∙ ap (λ h. a_want (record { wants = map id_of_bytes (map bytes_of_id t.wants); haves = h })) (ids_back t.haves)
    ∙ ap text_back (sym a)
written_back (a_pack t) m written plain a =
    ap (λ k. a_pack (record { ack = k; objects = t.objects })) (id_back t.ack)
    ∙ ap (λ os. a_pack (record { ack = option_map id_of_bytes (option_map bytes_of_id t.ack); objects = os })) (set_back t.objects a.objects written.set.sorted written.grammar a.brought)
    ∙ ap text_back (sym a.is)
written_back (a_push t) m written plain a = push_back t m written plain a
written_back (a_report t) m written plain a = report_back t m plain a
written_back (an_error words) m written plain a = ap text_back (sym a)
