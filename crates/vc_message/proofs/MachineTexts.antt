-- The machine's message that a text is: there is one for each text that is spelled, and no other.
use Rattle.std.proofs.Common.{◌≡◌, ℕ, ◌<◌, ◌≤◌, ◌^◌, Bool, true, false, cond, List, ◌∷◌, map, drop, Option, Some, None, Result, Ok, Err, refl, ap, sym, ◌∙◌, subst, arith, ◌⊎◌, inl, inr, []}
use Rattle.std.specs.Prelude.{codes, decimal, find, not, option_and_then, option_map}
use Rattle.std.specs.FinMap.{FinMap, entries, from_entries, get, get-entries, get-from_entries, same_map}
use Rattle.std.specs.FinMap as finite
use Rattle.std.specs.List.{AllByRecursion}
use Rattle.std.specs.Ordering.{eq_by_cmp, is_eq, nat_cmp}
use Rattle.std.specs.Cmp.Lexicographic.{nat_list_cmp_total, slice_cmp}
use Rattle.std.specs.Str.{bytes_eq}
use Rattle.std.proofs.lemmas.Bool.{not-true}
use Rattle.std.proofs.lemmas.Fmt.{decimal_injective}
use Rattle.std.proofs.lemmas.List.{append_cancel_left}
use Rattle.std.proofs.lemmas.Slice.Eq.{bytes_eq-Decides}
use Rattle.vc_format.specs.Git.{bytes_of_id}
use Rattle.vc_object.specs.Decoding.{StoredObject}
use Rattle.vc_object.specs.Header.{number}
use Rattle.vc_object.specs.ObjectId.{id_cmp}
use Rattle.vc_object.specs.declared.fault.ObjectFault.{ObjectFault}
use Rattle.vc_object.specs.declared.fault.ObjectFault.TheVariants.{BadCommit, BadHeader, BadMode, BadName, BadSize, BadTag, Cut, DuplicateName, NotSorted, TooLarge}
use Rattle.vc_object.specs.declared.id.ObjectId.{ObjectId}
use Rattle.vc_object.proofs.Objects.{number_decimal}
use Rattle.vc_object.proofs.OneFault.{two_bodies}
use Rattle.vc_pkt.specs.Carried.{object_named, stored_name}
use Rattle.vc_pkt.specs.Line.{LineText}
use Rattle.vc_fetch.specs.Advert.{AdvertText}
use Rattle.vc_fetch.specs.Pack.{PackText, is_object}
use Rattle.vc_lemmas.proofs.Lists.{found_passes}
use Rattle.vc_push.specs.Push.{Carried, PushText, SpellsCarried, SpellsPush, carried_or, only_deletes}
use Rattle.vc_push.specs.Report.{ReportText, ToldText, unpack_error}
use Rattle.vc_push.specs.Reason.{number_or_zero}
use Rattle.vc_push.proofs.Reasons.{reason_again}
use Rattle.vc_push_rules.specs.Carrying.{objects_in}
use Rattle.vc_push_rules.specs.Steps.{fault_number}
use Rattle.vc_model.specs.Message.{IsNamedMessage, Message, Told}
use Rattle.vc_model.specs.Message.Message.{Advert, Error, ListRefs, Pack, Push, Report, Want}
use Rattle.vc_model.specs.Object.{Id}
use Rattle.vc_model.specs.Refs.{RefName, Refs}
use Rattle.vc_model.proofs.Maps.{bytes_same}
use Rattle.vc_rules.specs.Git.{git}
use Rattle.vc_rules.specs.OpenPushes.{AreToldAs, IsOutcomeAs}
use Rattle.vc_rules.specs.Verdicts.{machine_command}
use Rattle.vc_rules.proofs.CarriedLemmas.{each_is_brought}
use Rattle.vc_message.specs.AnyMessage.{MessageText, a_list, a_pack, a_push, a_report, a_want, an_advert, an_error, SpellsMessage}
use Rattle.vc_message.specs.Machine.{IsAdvert, IsPack, IsPush, IsRefusalOf, IsReport, IsUnpackedAs, TellsNumber, TextOf, machine_outcome, machine_told}
use Rattle.vc_message.proofs.BodyFaults.{fault_is}
use Rattle.vc_message.proofs.MachineObjects.{named_set, one_set}
use Rattle.vc_message.proofs.Totals.{less_or}

-- ---- one at most
one_number : (words : List ℕ) (n k : ℕ) → TellsNumber words n → TellsNumber words k → n ≡ k
one_number words n k (inl (low, is)) (inl (small, at)) = decimal_injective n k low small (append_cancel_left (codes "error ") (decimal n) (decimal k) (sym is ∙ at))
one_number words n k (inl (low, is)) (inr (none, zero)) = absurd (none n low is)
one_number words n k (inr (none, zero)) (inl (low, is)) = absurd (none k low is)
one_number words n k (inr (none, zero)) (inr (other, same)) = zero ∙ sym same

one_unpacked : (unpack : Option (List ℕ)) (a b : Option ℕ) → IsUnpackedAs unpack a → IsUnpackedAs unpack b → a ≡ b
one_unpacked None a b x y = x ∙ sym y
one_unpacked (Some words) a b (n, tells, is) (k, told, at) = is ∙ ap Some (one_number words n k tells told) ∙ sym at

one_refusal_of : (c : Carried) (a b : Option ℕ) → IsRefusalOf c a → IsRefusalOf c b → a ≡ b
one_refusal_of (Ok objects) a b x y = x ∙ sym y
one_refusal_of (Err bad) a b (e, fault, is) (f, other, at) = is ∙ ap (λ g. Some (fault_number g)) (two_bodies bad.kind bad.body e f fault other) ∙ sym at

same_push : (t : PushText) (m n : Message) → IsPush m t → IsPush n t → m ≡ n
same_push t m n a b =
    a.is ∙ ap (λ r. Push t.atomic r (map machine_command t.commands) a.objects) (one_refusal_of t.carried a.refusal b.refusal a.refused b.refused)
    ∙ ap (λ s. Push t.atomic b.refusal (map machine_command t.commands) s) (one_set t.carried a.objects b.objects a.brought b.brought) ∙ sym b.is

pub one_text : (t : MessageText) (m n : Message) → TextOf m t → TextOf n t → m ≡ n
one_text a_list m n a b = a ∙ sym b
one_text (an_advert t) m n a b =
    a.is ∙ ap (λ r. Advert (option_map bytes_of_id t.head) r) (same_map nat_list_cmp_total bytes_same a.refs b.refs (λ name. a.same name ∙ sym (b.same name))) ∙ sym b.is
one_text (a_want t) m n a b = a ∙ sym b
one_text (a_pack t) m n a b = a.is ∙ ap (λ s. Pack (option_map bytes_of_id t.ack) s) (one_set (Ok t.objects) a.objects b.objects a.brought b.brought) ∙ sym b.is
one_text (a_push t) m n a b = same_push t m n a b
one_text (a_report t) m n a b = a.is ∙ ap (λ r. Report r (map machine_told t.told)) (one_unpacked t.unpack a.refusal b.refusal a.unpacked b.unpacked) ∙ sym b.is
one_text (an_error words) m n a b = a ∙ sym b

-- ---- the objects that it brings
pub named_text : (t : MessageText) (m : Message) → TextOf m t → IsNamedMessage git m
named_text a_list m a = subst (IsNamedMessage git) (sym a) tt
named_text (an_advert t) m a = subst (IsNamedMessage git) (sym a.is) tt
named_text (a_want t) m a = subst (IsNamedMessage git) (sym a) tt
named_text (a_pack t) m a = subst (IsNamedMessage git) (sym a.is) (named_set (Ok t.objects) a.objects a.brought)
named_text (a_push t) m a = subst (IsNamedMessage git) (sym a.is) (named_set t.carried a.objects a.brought)
named_text (a_report t) m a = subst (IsNamedMessage git) (sym a.is) tt
named_text (an_error words) m a = subst (IsNamedMessage git) (sym a) tt

-- ---- one at least
-- entries with other values
unfoldable pub with_values : {A B : Type 0} → (A → B) → List (RefName × A) → List (RefName × B)
with_values f [] = []
with_values f (e ∷ es) = (e.0, f e.1) ∷ with_values f es

pub found_value : {A B : Type 0} (f : A → B) (n : RefName) (es : List (RefName × A)) → finite.find (slice_cmp nat_cmp) n (with_values f es) ≡ option_map f (finite.find (slice_cmp nat_cmp) n es)
unfolding with_values
found_value f n [] = refl
found_value f n (e ∷ es) = by (eq_by_cmp (slice_cmp nat_cmp) n e.0) (found_value f n es)
  where
    by : (b : Bool) → finite.find (slice_cmp nat_cmp) n (with_values f es) ≡ option_map f (finite.find (slice_cmp nat_cmp) n es)
        → cond b (Some (f e.1)) (finite.find (slice_cmp nat_cmp) n (with_values f es)) ≡ option_map f (cond b (Some e.1) (finite.find (slice_cmp nat_cmp) n es))
    by true later = refl
    by false later = later

-- a map with other values
pub got_value : {A B : Type 0} (f : A → B) (m : FinMap (slice_cmp nat_cmp) A) (n : RefName) → get (from_entries {R = slice_cmp nat_cmp} (with_values f (entries m))) n ≡ option_map f (get m n)
got_value f m n = get-from_entries nat_list_cmp_total (with_values f (entries m)) n ∙ found_value f n (entries m) ∙ ap (option_map f) (sym (get-entries m n))

an_advert_is : (t : AdvertText) → (m : Message) × IsAdvert m t
an_advert_is t =
    let refs : Refs = from_entries (with_values bytes_of_id (entries t.refs)) in (
      Advert (option_map bytes_of_id t.head) refs,
      record { refs = refs; is = refl; same = λ n. got_value bytes_of_id t.refs n },
    )

a_pack_is : (t : PackText) → (m : Message) × IsPack m t
a_pack_is t =
    let brought = each_is_brought (Ok t.objects) in
    (Pack (option_map bytes_of_id t.ack) brought.0, record { objects = brought.0; is = refl; brought = brought.1 })

refusal_or : (objects : List StoredObject) (found : Option StoredObject) → find (λ o. not (is_object o)) objects ≡ found → (r : Option ℕ) × IsRefusalOf (carried_or found objects) r
refusal_or objects None e = (None, refl)
refusal_or objects (Some bad) e =
    let f = fault_is bad (not-true (is_object bad) (found_passes (λ o. not (is_object o)) objects bad e)) in
    (Some (fault_number f.0), (f.0, f.1, refl))

refusal_is : (deletes : Bool) (c : Carried) (lines : List LineText) → SpellsCarried deletes c lines → (r : Option ℕ) × IsRefusalOf c r
refusal_is true c lines (none, is) = (None, subst (λ d. IsRefusalOf d None) (sym is) refl)
refusal_is false c lines (objects, stream, is) =
    let r = refusal_or objects (find (λ o. not (is_object o)) objects) refl in
    (r.0, subst (λ d. IsRefusalOf d r.0) (sym is) r.1)

a_push_is : (t : PushText) (lines : List LineText) → SpellsPush t lines → (m : Message) × IsPush m t
a_push_is t lines s =
    let r = refusal_is (only_deletes t.commands) t.carried s.stream s.carries in
    let brought = each_is_brought t.carried in (
      Push t.atomic r.0 (map machine_command t.commands) brought.0,
      record { refusal = r.0; objects = brought.0; is = refl; refused = r.1; brought = brought.1 },
    )

-- the number that a text tells is that of its digits, if they are as that number is written
module _ (words : List ℕ) where
  digits_number : ℕ
  digits_number = number (drop 6 words)

  its_number : (k : ℕ) → k < 2 ^ 64 → words ≡ unpack_error k → digits_number ≡ k
  unfolding digits_number
  its_number k low is = ap (λ w. number (drop 6 w)) is ∙ number_decimal k low

  by_digits : (digits_number < 2 ^ 64) ⊎ (2 ^ 64 ≤ digits_number) → (same : Bool) → bytes_eq words (unpack_error digits_number) ≡ same → (n : ℕ) × TellsNumber words n
  by_digits (inl low) true e = (digits_number, inl (low, (bytes_eq-Decides words (unpack_error digits_number)).0 e))
  by_digits (inl low) false e = (0, inr (λ k small is. let other : words ≡ unpack_error digits_number = is ∙ ap unpack_error (sym (its_number k small is)) in absurd (let t = sym ((bytes_eq-Decides words (unpack_error digits_number)).1 other) ∙ e in cc t), refl))
  by_digits (inr high) same e = (0, inr (λ k small is. let n = its_number k small is in omega (arith, high, small, n), refl))

  tells : (n : ℕ) × TellsNumber words n
  tells = by_digits (less_or digits_number (2 ^ 64)) (bytes_eq words (unpack_error digits_number)) refl

unpacked_is : (unpack : Option (List ℕ)) → (r : Option ℕ) × IsUnpackedAs unpack r
unpacked_is None = (None, refl)
unpacked_is (Some words) = let n = tells words in (Some n.0, (n.0, n.1, refl))

a_report_is : (t : ReportText) → (m : Message) × IsReport m t
a_report_is t = let r = unpacked_is t.unpack in (Report r.0 (map machine_told t.told), record { refusal = r.0; is = refl; unpacked = r.1 })

pub text_is : (t : MessageText) (lines : List LineText) → SpellsMessage t lines → (m : Message) × TextOf m t
text_is a_list lines s = (ListRefs, refl)
text_is (an_advert t) lines s = an_advert_is t
text_is (a_want t) lines s = (Want (map bytes_of_id t.wants) (map bytes_of_id t.haves), refl)
text_is (a_pack t) lines s = a_pack_is t
text_is (a_push t) lines s = a_push_is t lines s
text_is (a_report t) lines s = a_report_is t
text_is (an_error words) lines s = (Error words, refl)

-- ---- as nodes have them
-- of objects that all pass, what is found is what is brought
pub all_in : (objects : List StoredObject) (id : ObjectId) → AllByRecursion (λ o. is_object o ≡ true) objects → object_named id objects ≡ objects_in objects id
unfolding objects_in
all_in [] id all = refl
all_in (o ∷ os) id all = by (is_eq (id_cmp id (stored_name o))) (all_in os id all.1)
  where
    by : (b : Bool) → object_named id os ≡ objects_in os id → cond b (Some o) (object_named id os) ≡ option_and_then (λ q. cond (is_object q) (Some q) None) (cond b (Some o) (object_named id os))
    by true later = sym (ap (λ c. cond c (Some o) None) all.0)
    by false later = later

outcome_is : (text : Result ObjectId (List ℕ)) (outcome : Result Id ℕ) → IsOutcomeAs text outcome → outcome ≡ machine_outcome text
outcome_is text outcome (inl (id, is, at)) = at ∙ ap machine_outcome (sym is)
outcome_is text outcome (inr (r, is, at)) = at ∙ ap (λ n. Err (number_or_zero n)) (sym (reason_again r)) ∙ ap machine_outcome (sym is)

all_told : (ts : List ToldText) (told : List Told) → AreToldAs ts told → told ≡ map machine_told ts
all_told [] [] same = refl
all_told [] (u ∷ us) same = absurd same
all_told (t ∷ ts) [] same = absurd same
all_told (t ∷ ts) (u ∷ us) ((name, outcome), others) =
    ap (λ n. record { name = n; outcome = u.outcome } ∷ us) name ∙ ap (λ o. record { name = t.name; outcome = o } ∷ us) (outcome_is t.outcome u.outcome outcome)
    ∙ ap (λ xs. machine_told t ∷ xs) (all_told ts us others)

-- a report of a push whose fault is this
pub report_of : (t : ReportText) (fault : Option ObjectFault) (told : List Told) → t.unpack ≡ option_map unpack_error (option_map fault_number fault) → AreToldAs t.told told → IsReport (Report (option_map fault_number fault) told) t
report_of t fault told unpack same = record {
  refusal = option_map fault_number fault;
  is = ap (Report (option_map fault_number fault)) (all_told t.told told same);
  unpacked = subst (λ u. IsUnpackedAs u (option_map fault_number fault)) (sym unpack) (by fault);
}
  where
    small : (e : ObjectFault) → fault_number e < 2 ^ 64
    small BadHeader = omega arith
    small BadSize = omega arith
    small TooLarge = omega arith
    small BadMode = omega arith
    small BadName = omega arith
    small NotSorted = omega arith
    small DuplicateName = omega arith
    small BadCommit = omega arith
    small BadTag = omega arith
    small Cut = omega arith

    by : (fault : Option ObjectFault) → IsUnpackedAs (option_map unpack_error (option_map fault_number fault)) (option_map fault_number fault)
    by None = refl
    by (Some e) = (fault_number e, inl (small e, refl), refl)
