-- Written messages and the machine's, one by one.
use Rattle.std.proofs.Common.{◌≡◌, ℕ, zero, suc, List, [], ◌∷◌, ◌++◌, Option, Some, None, refl, sym, ap, subst, slice_get, length, option_map, option_to_list, append-nil}
use Rattle.std.specs.List.{AllByRecursion}
use Rattle.vc_model.specs.Message.{Message, Envelope}
use Rattle.vc_events.specs.declared.letters.Letter.{Letter}
use Rattle.vc_events.specs.World.{IsLetter, AreLetters}
use Rattle.vc_events.specs.Events.{IsEnd}

pub letters_more : (ls : List Letter) (es : List Envelope) (l : Letter) (e : Envelope) → AreLetters ls es → IsLetter l e → AreLetters (ls ++ l ∷ []) (es ++ e ∷ [])
letters_more [] [] l e are is = (is, tt)
letters_more (k ∷ ls) (d ∷ es) l e are is = (are.0, letters_more ls es l e are.1 is)
letters_more [] (d ∷ es) l e are is = absurd are
letters_more (k ∷ ls) [] l e are is = absurd are

pub letter_at : (ls : List Letter) (es : List Envelope) (k : ℕ) (l : Letter) → AreLetters ls es → slice_get ls k ≡ Some l → (e : Envelope) × (slice_get es k ≡ Some e) × IsLetter l e
letter_at [] [] k l are is = absurd (cc)
letter_at (x ∷ ls) (d ∷ es) zero l are is = (d, refl, subst (λ (y : Letter). IsLetter y d) (cc) are.0)
letter_at (x ∷ ls) (d ∷ es) (suc k) l are is = letter_at ls es k l are.1 is
letter_at [] (d ∷ es) k l are is = absurd are
letter_at (x ∷ ls) [] k l are is = absurd are

pub no_letter : (ls : List Letter) (es : List Envelope) (k : ℕ) → AreLetters ls es → slice_get ls k ≡ None → slice_get es k ≡ None
no_letter [] [] k are is = refl
no_letter (x ∷ ls) (d ∷ es) zero are is = absurd (cc)
no_letter (x ∷ ls) (d ∷ es) (suc k) are is = no_letter ls es k are.1 is
no_letter [] (d ∷ es) k are is = absurd are
no_letter (x ∷ ls) [] k are is = absurd are

pub letters_count : (ls : List Letter) (es : List Envelope) → AreLetters ls es → length ls ≡ length es
letters_count [] [] are = refl
letters_count (x ∷ ls) (d ∷ es) are = ap (λ n. suc n) (letters_count ls es are.1)
letters_count [] (d ∷ es) are = absurd are
letters_count (x ∷ ls) [] are = absurd are

pub end_at : (n : ℕ) (ls : List Letter) (k : ℕ) (l : Letter) → AllByRecursion (IsEnd n) ls → slice_get ls k ≡ Some l → IsEnd n l
end_at n [] k l all is = absurd (cc)
end_at n (x ∷ ls) zero l all is = subst (λ (y : Letter). IsEnd n y) (cc) all.0
end_at n (x ∷ ls) (suc k) l all is = end_at n ls k l all.1 is

ends_more : (n : ℕ) (ls : List Letter) (l : Letter) → AllByRecursion (IsEnd n) ls → IsEnd n l → AllByRecursion (IsEnd n) (ls ++ l ∷ [])
ends_more n [] l all is = (is, tt)
ends_more n (x ∷ ls) l all is = (all.0, ends_more n ls l all.1 is)

-- The letters after a call are those before, and what it sends.
pub record ArePosted (n : ℕ) (ls after : List Letter) (to : Message → Envelope) (s : Option Message) : Type 0 where
  pub each : (es : List Envelope) → AreLetters ls es → AreLetters after (es ++ option_to_list (option_map to s))
  pub ends : AllByRecursion (IsEnd n) ls → AllByRecursion (IsEnd n) after

pub none_posted : (n : ℕ) (ls after : List Letter) (to : Message → Envelope) (s : Option Message) → after ≡ ls → s ≡ None → ArePosted n ls after to s
none_posted n ls after to s same none = record {
  each = λ es are.
      subst (λ (s : Option Message). AreLetters after (es ++ option_to_list (option_map to s))) (sym none)
      (subst (λ (fs : List Envelope). AreLetters after fs) (sym (append-nil es)) (subst (λ (ls : List Letter). AreLetters ls es) (sym same) are));
  ends = λ all. subst (λ (ls : List Letter). AllByRecursion (IsEnd n) ls) (sym same) all;
}

pub one_posted : (n : ℕ) (ls after : List Letter) (to : Message → Envelope) (s : Option Message) (l : Letter) (m : Message) → after ≡ ls ++ l ∷ [] → s ≡ Some m → IsLetter l (to m) → IsEnd n l → ArePosted n ls after to s
one_posted n ls after to s l m more some is end = record {
  each = λ es are.
      subst (λ (s : Option Message). AreLetters after (es ++ option_to_list (option_map to s))) (sym some)
      (subst (λ (ks : List Letter). AreLetters ks (es ++ to m ∷ [])) (sym more) (letters_more ls es l (to m) are is));
  ends = λ all. subst (λ (ks : List Letter). AllByRecursion (IsEnd n) ks) (sym more) (ends_more n ls l all end);
}
