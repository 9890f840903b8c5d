-- Bodies cut into data lines. The bound is a variable: a tactic would count a numeral down.
use Rattle.std.proofs.Common.{◌≡◌, ◌≢◌, ℕ, ◌-◌, ◌<◌, ◌≤◌, min, List, [], ◌∷◌, ◌++◌, length, take, drop, refl, ap, sym, ◌∙◌, subst, arith, append_assoc, length-drop}
use Rattle.std.proofs.lemmas.List.{append-nil, take-append-drop, length-take, take_min, drop_min}
use Rattle.std.specs.List.{AllByRecursion, flat_map}
use Rattle.vc_pkt.specs.Line.{text, spelling, IsWritable}
use Rattle.vc_pkt.specs.ObjectStream.{IsData}
use Rattle.vc_pkt.specs.Written.{cut_up, data_lines}

some_taken : (m : ℕ) (xs : List ℕ) → 0 < m → 0 < length xs → take m xs ≢ []
some_taken m xs h k z = let len : min m (length xs) ≡ 0 = sym (length-take m xs) ∙ ap length z in omega arith

cut_is_data : (m : ℕ) (fuel body : List ℕ) → 0 < m → length body ≤ length fuel → IsData (cut_up m fuel body) body
cut_is_data m [] [] pos h = refl
cut_is_data m [] (b ∷ bs) pos h = absurd (omega arith)
cut_is_data m (f ∷ fuel) [] pos h = refl
cut_is_data m (f ∷ fuel) (b ∷ bs) pos h =
    let len = length-drop m (b ∷ bs) in
    (some_taken m (b ∷ bs) pos (omega arith), (drop m (b ∷ bs), cut_is_data m fuel (drop m (b ∷ bs)) pos (omega arith), sym (take-append-drop m (b ∷ bs))))

pub written_data : (body : List ℕ) → IsData (data_lines body) body
unfolding data_lines
written_data body = cut_is_data 65516 body body (omega arith) (omega arith)

-- what is left to write
pub record Left (m : ℕ) (old out all rest : List ℕ) : Type 0 where
  pub fuel : List ℕ
  pub enough : length rest ≤ length fuel
  pub whole : out ++ flat_map spelling (cut_up m fuel rest) ≡ old ++ flat_map spelling (cut_up m all all)

less : (m : ℕ) (fuel old out now all rest piece after : List ℕ) → 0 < m → length rest ≤ length fuel → 0 < length rest
    → out ++ flat_map spelling (cut_up m fuel rest) ≡ old ++ flat_map spelling (cut_up m all all)
    → piece ≡ take m rest → after ≡ drop m rest → now ≡ out ++ spelling (text piece) → Left m old now all after
less m [] old out now all rest piece after pos enough some whole p a e = absurd (omega arith)
less m (f ∷ fuel) old out now all [] piece after pos enough some whole p a e = absurd (omega arith)
less m (f ∷ fuel) old out now all (b ∷ bs) piece after pos enough some whole p a e =
    let len : length after ≡ length (b ∷ bs) - m = ap length a ∙ length-drop m (b ∷ bs) in
    let tail = flat_map spelling (cut_up m fuel after) in
    record {
      fuel = fuel;
      enough = omega arith;
      whole =
          ap (λ t. t ++ tail) e ∙ append_assoc out (spelling (text piece)) tail
          ∙ ap (λ t. out ++ (spelling (text t) ++ tail)) p ∙ ap (λ t. out ++ (spelling (text (take m (b ∷ bs))) ++ flat_map spelling (cut_up m fuel t))) a ∙ whole;
    }

pub one_less : (m : ℕ) (old out now all rest piece after : List ℕ) → 0 < m → Left m old out all rest → 0 < length rest → piece ≡ take (min m (length rest)) rest → after ≡ drop (min m (length rest)) rest
    → now ≡ out ++ spelling (text piece) → Left m old now all after
one_less m old out now all rest piece after pos l some p a e = less m l.fuel old out now all rest piece after pos l.enough some l.whole (p ∙ take_min m rest) (a ∙ drop_min m rest) e

none : (m : ℕ) (fuel old out all : List ℕ) → out ++ flat_map spelling (cut_up m fuel []) ≡ old ++ flat_map spelling (cut_up m all all) → out ≡ old ++ flat_map spelling (cut_up m all all)
none m [] old out all w = sym (append-nil out) ∙ w
none m (f ∷ fuel) old out all w = sym (append-nil out) ∙ w

pub none_left : (m : ℕ) (old out all rest : List ℕ) → Left m old out all rest → rest ≡ [] → out ≡ old ++ flat_map spelling (cut_up m all all)
none_left m old out all rest l z = none m l.fuel old out all (subst (λ t. out ++ flat_map spelling (cut_up m l.fuel t) ≡ old ++ flat_map spelling (cut_up m all all)) z l.whole)

pub done : (old out body : List ℕ) → out ≡ old ++ flat_map spelling (cut_up 65516 body body) → out ≡ old ++ flat_map spelling (data_lines body)
unfolding data_lines
done old out body e = e

pub positive : (xs : List ℕ) → (xs ≡ [] → ⊥) → 0 < length xs
positive [] h = absurd (h refl)
positive (b ∷ bs) h = omega arith

pub grown_twice : (old now new : List ℕ) → (more : List ℕ) × (now ≡ old ++ more) → (more : List ℕ) × (new ≡ now ++ more) → (more : List ℕ) × (new ≡ old ++ more)
grown_twice old now new (a, e) (b, f) = (a ++ b, f ∙ ap (λ t. t ++ b) e ∙ append_assoc old a b)

-- written data lines may be written
cut_fits : (m : ℕ) (fuel body : List ℕ) → 0 < m → m ≤ 65516 → AllByRecursion IsWritable (cut_up m fuel body)
cut_fits m [] body pos small = tt
cut_fits m (f ∷ fuel) [] pos small = tt
cut_fits m (f ∷ fuel) (b ∷ bs) pos small =
    let len = length-take m (b ∷ bs) in
    ((omega arith, omega arith), cut_fits m fuel (drop m (b ∷ bs)) pos small)

pub data_fits : (body : List ℕ) → AllByRecursion IsWritable (data_lines body)
unfolding data_lines
data_fits body = cut_fits 65516 body body (omega arith) (omega arith)
