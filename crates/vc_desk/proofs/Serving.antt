-- All connections together.
use Rattle.std.proofs.Common.{◌≡◌, ℕ, ◌+◌, List, [], ◌∷◌, ◌++◌, length, arith, Option, refl, sym, subst, ap}
use Rattle.vc_model.specs.Shared.{SharedNode}
use Rattle.vc_desk.specs.Entry.{EntryText}
use Rattle.vc_desk.specs.Runs.{Runs}
use Rattle.vc_desk.specs.Served.{AllBegun, AllServed, Finishes, IsServed}
use Rattle.vc_desk.specs.declared.serve.Started.{Started}
use Rattle.vc_desk.specs.declared.work.End.{End}

-- the same run from a node that holds less
pub runs_from : {S : Type 0} (holds : S → SharedNode → Type 0) (first start now : S) (log : List EntryText) → ((n : SharedNode) → holds first n → holds start n) → Runs holds start log now → Runs holds first log now
runs_from holds first start now log more runs = record { each = λ n held. runs.each n (more n held) }

pub append_assoc : {A : Type 0} (xs : List A) (y : A) (ys : List A) → xs ++ y ∷ ys ≡ (xs ++ y ∷ []) ++ ys
append_assoc [] y ys = refl
append_assoc (x ∷ xs) y ys = ap (λ (l : List _). x ∷ l) (append_assoc xs y ys)

pub append_nil : {A : Type 0} (xs : List A) → xs ≡ xs ++ []
append_nil [] = refl
append_nil (x ∷ xs) = ap (λ (l : List _). x ∷ l) (append_nil xs)

no_length : {A : Type 0} (x : A) (xs : List A) → length (x ∷ xs) ≡ 0 → ⊥
no_length x xs is = omega arith

module _ {R W : Type 0} (limit : ℕ) (can_fail : R → Type 0) (remaining : R → Option (List ℕ)) (contents : W → Option (List ℕ)) where
  -- one more has ended
  pub ends_more : (name : ℕ) (connections rest : List (R × W)) (c : R × W) (ended : List (End W)) (e : End W) → IsServed limit can_fail remaining contents name c.0 c.1 e
      → ((es : List (End W)) → AllServed limit can_fail remaining contents name (c ∷ rest) es → AllServed limit can_fail remaining contents 0 connections (ended ++ es))
      → (es : List (End W)) → AllServed limit can_fail remaining contents (name + 1) rest es → AllServed limit can_fail remaining contents 0 connections ((ended ++ e ∷ []) ++ es)
  ends_more name connections rest c ended e is so es all = subst (λ (l : List (End W)). AllServed limit can_fail remaining contents 0 connections l) (append_assoc ended e es) (so (e ∷ es) (is, all))

  -- all are begun, of which none is left
  pub begun_all : (name : ℕ) (rest connections : List (R × W)) (begun : List (Started R W)) → length rest ≡ 0
      → ((ss : List (Started R W)) → AllBegun limit can_fail remaining contents name rest ss → AllBegun limit can_fail remaining contents 0 connections (begun ++ ss)) → AllBegun limit can_fail remaining contents 0 connections begun
  begun_all name [] connections begun none so = subst (λ (l : List (Started R W)). AllBegun limit can_fail remaining contents 0 connections l) (sym (append_nil begun)) (so [] tt)
  begun_all name (c ∷ cs) connections begun none so = absurd (no_length c cs none)

  pub ended_none : (connections : List (R × W)) (ended : List (End W)) → ended ≡ [] → (es : List (End W)) → AllServed limit can_fail remaining contents 0 connections es → AllServed limit can_fail remaining contents 0 connections (ended ++ es)
  ended_none connections ended none es h = subst (λ (l : List (End W)). AllServed limit can_fail remaining contents 0 connections (l ++ es)) (sym none) h

  -- one more is joined
  pub joins_more : (name : ℕ) (cs connections : List (R × W)) (s : Started R W) (items rest : List (Started R W)) (ended new : List (End W)) (e : End W)
      → items ≡ s ∷ rest → new ≡ ended ++ e ∷ [] → AllBegun limit can_fail remaining contents name cs items → Finishes limit can_fail remaining contents s e
      → ((es : List (End W)) → AllServed limit can_fail remaining contents name cs es → AllServed limit can_fail remaining contents 0 connections (ended ++ es))
      → (next : ℕ) × (left : List (R × W)) × AllBegun limit can_fail remaining contents next left rest
      × ((es : List (End W)) → AllServed limit can_fail remaining contents next left es → AllServed limit can_fail remaining contents 0 connections (new ++ es))
  joins_more name [] connections s items rest ended new e is more begun finishes so = absurd (subst (λ (l : List (Started R W)). AllBegun limit can_fail remaining contents name [] l) is begun)
  joins_more name (c ∷ cs) connections s items rest ended new e is more begun finishes so =
      let b : AllBegun limit can_fail remaining contents name (c ∷ cs) (s ∷ rest) = subst (λ (l : List (Started R W)). AllBegun limit can_fail remaining contents name (c ∷ cs) l) is begun in (
        name + 1,
        cs,
        b.1,
        subst (λ (l : List (End W)). (es : List (End W)) → AllServed limit can_fail remaining contents (name + 1) cs es → AllServed limit can_fail remaining contents 0 connections (l ++ es)) (sym more)
            (ends_more name connections cs c ended e (finishes name c.0 c.1 b.0) so),
      )

  -- all have ended
  pub ended_all : (name : ℕ) (cs connections : List (R × W)) (items : List (Started R W)) (ended : List (End W)) → length items ≡ 0 → AllBegun limit can_fail remaining contents name cs items
      → ((es : List (End W)) → AllServed limit can_fail remaining contents name cs es → AllServed limit can_fail remaining contents 0 connections (ended ++ es)) → AllServed limit can_fail remaining contents 0 connections ended
  ended_all name [] connections [] ended none begun so = subst (λ (l : List (End W)). AllServed limit can_fail remaining contents 0 connections l) (sym (append_nil ended)) (so [] tt)
  ended_all name (c ∷ cs) connections [] ended none begun so = absurd begun
  ended_all name cs connections (s ∷ ss) ended none begun so = absurd (no_length s ss none)
