-- What reads put into a buffer, for the functions that fill it.
use Rattle.std.proofs.Common.{◌≡◌, ℕ, ◌+◌, ◌-◌, ◌≤◌, List, ◌++◌, length, take, drop, refl, ap, sym, ◌∙◌, subst, arith, length-drop, length-take-le, le_refl, drop_of_length-le}
use Rattle.std.specs.Io.KnownBytes.{Consumes}
use Rattle.std.specs.Prelude.{Option}
use Rattle.std.proofs.KnownBytes.{Consumes-nil, Consumes-trans}
use Rattle.std.proofs.lemmas.List.{drop_at, take-append-drop, take-append-le, take_all, take_at}
use lib.Seq.{drop-append-le, take-add, take-take}

-- what is read into a part of a buffer stands at its place
pub in_place : (old new : Option (List ℕ)) (front part rest : List ℕ) (at n : ℕ) → length front ≡ at → n ≤ length part → Consumes old new (take n part) → Consumes old new (take n (drop at (front ++ (part ++ rest))))
in_place old new front part rest at n long fits read =
    subst (λ t. Consumes old new t) (sym (ap (take n) (drop_at front (part ++ rest) at long) ∙ take-append-le n part rest fits)) read

-- the buffer was filled from one place to another
pub record FilledTo (old now : Option (List ℕ)) (before buffer : List ℕ) (at filled : ℕ) : Type 0 where
  pub from : at ≤ filled
  pub within : filled ≤ length buffer
  pub long : length buffer ≡ length before
  pub front : take at buffer ≡ take at before
  pub consumed : Consumes old now (drop at (take filled buffer))

-- nothing was put there yet
pub filled_none : (old : Option (List ℕ)) (buffer : List ℕ) (at : ℕ) → at ≤ length buffer → FilledTo old old buffer buffer at at
filled_none old buffer at within = record {
  from = le_refl at;
  within = within;
  long = refl;
  front = refl;
  consumed = subst (λ (t : List ℕ). Consumes old old t) (sym (drop_of_length-le (take at buffer) (let long = length-take-le at buffer within in omega (arith, long)))) (Consumes-nil old);
}

module _ (old now new : Option (List ℕ)) (before buffer after : List ℕ) (at filled : ℕ) (so : FilledTo old now before buffer at filled) (long : length after ≡ length buffer) (same : take filled after ≡ take filled buffer) where
  fronts : take at after ≡ take at before
  fronts = sym (take-take at filled after so.from) ∙ ap (take at) same ∙ take-take at filled buffer so.from ∙ so.front

  front_long : length (take filled after) ≡ filled
  front_long = length-take-le filled after (let w = so.within in omega (arith, w, long))

  pub filled_more : (n : ℕ) → filled + n ≤ length after → Consumes now new (take n (drop filled after)) → FilledTo old new before after at (filled + n)
  filled_more n fits read =
      let whole : drop at (take (filled + n) after) ≡ drop at (take filled after) ++ take n (drop filled after) =
      ap (drop at) (take-add filled n after) ∙ drop-append-le at (take filled after) (take n (drop filled after)) (let f = so.from in omega (arith, f, front_long)) in
      record {
        from = (let f = so.from in omega (arith, f));
        within = fits;
        long = long ∙ so.long;
        front = fronts;
        consumed = subst (λ t. Consumes old new t) (sym whole) (Consumes-trans old now new _ _ (subst (λ t. Consumes old now (drop at t)) (sym same) so.consumed) read);
      }

-- as many bytes were taken as were put there
pub filled_length : (buffer : List ℕ) (at filled : ℕ) → at ≤ filled → filled ≤ length buffer → length (drop at (take filled buffer)) ≡ filled - at
filled_length buffer at filled from within = length-drop at (take filled buffer) ∙ ap (λ n. n - at) (length-take-le filled buffer within)

-- where the buffer is cut, what was put there stands behind what was there before
pub cut_there : (bytes buffer : List ℕ) (start filled : ℕ) → start ≤ filled → take start buffer ≡ bytes → take filled buffer ≡ bytes ++ drop start (take filled buffer)
cut_there bytes buffer start filled from front =
    sym (take-append-drop start (take filled buffer)) ∙ ap (λ t. t ++ drop start (take filled buffer)) (take-take start filled buffer from ∙ front)

-- a buffer that grew begins with what it was
pub grown_front : (old grown rest : List ℕ) (start most : ℕ) → start ≡ length old → start ≤ most → grown ≡ take most old ++ rest → take start grown ≡ old
grown_front old grown rest start most same less e =
    ap (take start) (e ∙ ap (λ t. t ++ rest) (take_all most old (omega (arith, same, less)))) ∙ take_at old rest start (sym same)
