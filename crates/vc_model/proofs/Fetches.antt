-- A whole fetch between good nodes catches up.
use Rattle.std.proofs.Common.{◌≡◌, ◌≢◌, ℕ, ◌<◌, Option, Some, None, inl, inr, refl, sym, ap, ◌∙◌, subst}
use Rattle.std.proofs.lemmas.Option.{same_Some}
use Rattle.vc_model.specs.Object.{Format}
use Rattle.vc_model.specs.Repository.{Repository}
use Rattle.vc_model.specs.Node.{Answer, Failure}
use Rattle.vc_model.specs.Node.Answer.{Did, Fault}
use Rattle.vc_model.specs.Node.Reply.{Moved}
use Rattle.vc_model.specs.Shared.{SharedNode}
use Rattle.vc_model.specs.Clone.{CloneNode}
use Rattle.vc_model.specs.Rules.{Rules, rules_by}
use Rattle.vc_model.specs.Exchange.{BranchesCanBeTracked, AreReady, AreUp, IsLeft, IsFewer, IsLast, RoundEnds, Fetches, FetchEnds, FetchCatchesUp}
use Rattle.vc_model.specs.Exchange.RoundEnds.{moved, failed}
use Rattle.vc_model.specs.Exchange.FetchEnds.{moved as fetched, failed as fetch_failed}
use Rattle.vc_model.specs.Exchange.Fetches.{last, again}
use Rattle.vc_model.proofs.Exchanges.{round_well}

same_left : (n m k l : ℕ) → Did (Moved n k) ≡ Did (Moved m l) → k ≡ l
same_left n m k l e = cc

no_fault : (n k : ℕ) (f : Failure) → Did (Moved n k) ≡ Fault f → ⊥
no_fault n k f e = absurd (cc)

module _ (fmt : Format) (rules : Rules fmt) (can : BranchesCanBeTracked fmt) where
  -- so many were left by the round before, if there was one, and some were
  abbrev WereLeft : Option ℕ → Repository → Repository → Type 0
  WereLeft before s c = (k : ℕ) → before ≡ Some k → IsLeft fmt s c k × (k ≢ 0)

  is_fewer : (before : Option ℕ) (s c : Repository) (left : ℕ) → WereLeft before s c → ((k : ℕ) → IsLeft fmt s c k → k ≢ 0 → left < k) → IsFewer before left
  is_fewer None s c left were less = tt
  is_fewer (Some k) s c left were less = let w = were k refl in less k w.0 w.1

  -- what a fetch comes to
  abbrev Comes : SharedNode → Answer → SharedNode → CloneNode → Type 0
  Comes s a t d = FetchEnds s.repository a d × AreReady fmt rules t d × (t.repository ≡ s.repository)

  last_round : (before : Option ℕ) (s t : SharedNode) (c d : CloneNode) (a : Answer) → WereLeft before s.repository c.repository → IsLast before a
      → RoundEnds fmt s.repository c.repository a t d × AreReady fmt rules t d × (t.repository ≡ s.repository) → Comes s a t d
  last_round before s t c d a were over r = elim (r.0) [
    | moved n left is up now less caught ↦ (
      elim (subst (IsLast before) is over) [
        | inl none ↦ fetched n (is ∙ ap (λ (k : ℕ). Did (Moved n k)) none) (caught none)
        | inr not ↦ absurd (not (is_fewer before s.repository c.repository left were less))
      ],
      r.1,
      r.2,
    )
    | failed f is ↦ (fetch_failed f is, r.1, r.2)
  ]

  pub fetch_well : (before : Option ℕ) (s t : SharedNode) (c d : CloneNode) (a : Answer) → AreReady fmt rules s c → AreUp s c → WereLeft before s.repository c.repository → Fetches fmt rules before s c a t d → Comes s a t d
  fetch_well before s t c d a h up were (last r over) = last_round before s t c d a were over (round_well fmt rules s t c d a can h up r)
  fetch_well before s t c d a h up were (again {u = u} {e = e} n left r not fewer rest) =
      let k = round_well fmt rules s u c e (Did (Moved n left)) can h up r in
      go k (λ up' now. fetch_well (Some left) u t e d a k.1 up' (λ j i. let same : left ≡ j = same_Some left j i in
      (subst (λ (q : Repository). IsLeft fmt q e.repository j) (sym k.2) (subst (IsLeft fmt s.repository e.repository) same now), λ z. not (same ∙ z))) rest)
    where
      go : RoundEnds fmt s.repository c.repository (Did (Moved n left)) u e × AreReady fmt rules u e × (u.repository ≡ s.repository)
          → (AreUp u e → IsLeft fmt s.repository e.repository left → Comes u a t d) → Comes s a t d
      go k next = elim (k.0) [
        | moved m more is up' now less caught ↦
            let w = next up' (subst (IsLeft fmt s.repository e.repository) (sym (same_left n m left more is)) now) in
            (subst (λ (q : Repository). FetchEnds q a d) k.2 w.0, w.1, w.2 ∙ k.2)
        | failed f is ↦ absurd (no_fault n left f is)
      ]

pub fetch_ends : (fmt : Format) (rules : Rules fmt) (s t : SharedNode) (c d : CloneNode) (a : Answer) → BranchesCanBeTracked fmt → AreReady fmt rules s c → AreUp s c → Fetches fmt rules None s c a t d
    → FetchEnds s.repository a d × AreReady fmt rules t d × (t.repository ≡ s.repository)
fetch_ends fmt rules s t c d a can h up k = fetch_well fmt rules can None s t c d a h up (λ j e. absurd (cc)) k

pub fetch_catches_up : FetchCatchesUp
fetch_catches_up fmt tests s t c d a can h up k = fetch_ends fmt (rules_by fmt tests) s t c d a can h up k
