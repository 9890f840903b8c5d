-- What is judged want by want: all that the first of them reach is there.
use Rattle.std.proofs.Common.{◌≡◌, ℕ, ◌+◌, ◌<◌, ⊎_elim, List, [], ◌∷◌, ◌++◌, append_assoc, length, drop, take, get_or, Option, Result, Ok, Err, IfOk, IfErr, OnOk, Contains, sym, ap, ◌∙◌, subst, arith}
use Rattle.std.proofs.Math.Seq.{take-append_seam}
use Rattle.std.proofs.lemmas.List.{get_or_default, take-append-drop, take_more}
use Rattle.std.proofs.lemmas.List.Elements.{Contains-push_cases}
use Rattle.vc_object_map.specs.Graph.{Reaches, ReachedFrom, IsClosed, IsClosedUnder}

module _ {Id : Type 0} (links : Id → Option (List Id)) where
  pub closed_none : (wants : List Id) → IsClosedUnder links (take 0 wants)
  closed_none wants y h = absurd (omega (arith, h.is_root.1))

  module _ (wants : List Id) (n : ℕ) (d : Id) (within : n < length wants) where
    pub closed_next : IsClosedUnder links (take n wants) → IsClosed links (get_or wants n d) → IsClosedUnder links (take (n + 1) wants)
    closed_next before here y h =
        ⊎_elim (λ old. before y (record { root = h.root; is_root = old; reaches = h.reaches }))
        (λ is. here y (subst (λ r. Reaches links r y) (sym is) h.reaches))
        (Contains-push_cases (take n wants) (get_or wants n d) h.root (subst (λ l. Contains l h.root) (take_more wants n d within) h.is_root))

    -- what one of them reaches, they all do
    pub reached_wants : (y : Id) → ReachedFrom links (get_or wants n d ∷ []) y → ReachedFrom links wants y
    reached_wants y h =
        let is : get_or wants n d ≡ h.root = ⊎_elim (λ none. absurd (omega (arith, none.1))) (λ e. e) (Contains-push_cases [] (get_or wants n d) h.root h.is_root) in
        record { root = get_or wants n d; is_root = (n, within, get_or_default wants n (get_or wants n d) d within); reaches = subst (λ r. Reaches links r y) (sym is) h.reaches }

-- what stands in front of a list stands in front of one that begins with that list
pub front_then : {X : Type 0} (a b c : List X) → take (length a) b ≡ a → take (length b) c ≡ b → take (length a) c ≡ a
front_then a b c first second =
    let later = drop (length a) b in
    let last = drop (length b) c in
    let of_b : b ≡ a ++ later = sym (ap (λ l. l ++ later) (sym first) ∙ take-append-drop (length a) b) in
    let of_c : c ≡ b ++ last = sym (ap (λ l. l ++ last) (sym second) ∙ take-append-drop (length b) c) in
    ap (take (length a)) (of_c ∙ ap (λ l. l ++ last) of_b ∙ append_assoc a later last) ∙ take-append_seam a (later ++ last)

-- ---- what is said under a premise, of an answer
module _ {A E H : Type 0} where
  pub ok_under : {K : Type 0} (P : A → Type 0) (found : Result A E) → IfOk found (λ a. H → K → P a) → H → K → IfOk found P
  ok_under P (Ok a) p h k = p h k
  ok_under P (Err e) p h k = tt

  pub all_under : {K : Type 0} (P : Type 0) (found : Result A E) → IfOk found (λ a. H → K → P) → H → K → OnOk found P
  all_under P (Ok a) p h k = p h k
  all_under P (Err e) p h k = tt

  pub err_under : (P : E → Type 0) (found : Result A E) → IfErr found (λ e. H → P e) → H → IfErr found P
  err_under P (Ok a) p h = tt
  err_under P (Err e) p h = p h
