-- A pool of workers: port by port, and connection by connection.
use Rattle.std.proofs.Common.{append-nil, append_assoc, arith, ◌≡◌, ◌+◌, ℕ, List, [], ◌∷◌, ◌++◌, length, Option, Some, None, refl, sym, subst, ap, ◌∙◌}
use Rattle.std.specs.List.{AllZip}
use Rattle.vc_desk.specs.Pool.{Comes, Gains, IsBegunAs, IsPortBegun, IsPortServed, IsServedBy, IsServing, Stays}
use Rattle.vc_desk.specs.Talk.{ReceiptText}
use Rattle.vc_desk.specs.declared.pool.Begun.{Begun}
use Rattle.vc_desk.specs.declared.pool.Begun.TheVariants.{Ended, Worker}
use Rattle.vc_desk.specs.declared.pool.PortLine.{PortLine}
use Rattle.vc_desk.specs.declared.work.End.{End}

-- ---- known items

gains_none : {A : Type 0} (known : Option (List A)) → Gains known known []
gains_none None = tt
gains_none (Some xs) = sym (append-nil xs)

gains_both : {A : Type 0} (a b c : Option (List A)) (xs ys : List A) → Gains a b xs → Gains b c ys → Gains a c (xs ++ ys)
gains_both None b c xs ys p q = tt
gains_both (Some us) None c xs ys p q = absurd p
gains_both (Some us) (Some vs) None xs ys p q = absurd q
gains_both (Some us) (Some vs) (Some ws) xs ys p q = q ∙ (ap (λ (l : List _). l ++ ys) p ∙ append_assoc us xs ys)

gains_still : {A : Type 0} (a b c : Option (List A)) (xs : List A) → Gains a b xs → Stays b c → Gains a c xs
gains_still None b c xs p q = tt
gains_still (Some us) None c xs p q = absurd p
gains_still (Some us) (Some vs) None xs p q = absurd q
gains_still (Some us) (Some vs) (Some ws) xs p q = q ∙ p

still_gains : {A : Type 0} (a b c : Option (List A)) (xs : List A) → Stays a b → Gains b c xs → Gains a c xs
still_gains None b c xs p q = tt
still_gains (Some us) None c xs p q = absurd p
still_gains (Some us) (Some vs) None xs p q = absurd q
still_gains (Some us) (Some vs) (Some ws) xs p q = q ∙ ap (λ (l : List _). l ++ xs) p

-- ---- place by place

zip_snoc : {A B : Type 0} (R : A → B → Type 0) (xs : List A) (ys : List B) (x : A) (y : B) → AllZip R xs ys → R x y → AllZip R (xs ++ x ∷ []) (ys ++ y ∷ [])
zip_snoc R [] [] x y all one = (one, tt)
zip_snoc R [] (b ∷ vs) x y all one = absurd all
zip_snoc R (a ∷ us) [] x y all one = absurd all
zip_snoc R (a ∷ us) (b ∷ vs) x y all one = (all.0, zip_snoc R us vs x y all.1 one)

no_length : {A : Type 0} (x : A) (xs : List A) → length (x ∷ xs) ≡ 0 → ⊥
no_length x xs is = omega arith

-- What is done so far is all, once nothing is left.
pub zip_done : {A B : Type 0} (R : A → B → Type 0) (left all : List A) (done : List B) → length left ≡ 0 → ((ys : List B) → AllZip R left ys → AllZip R all (done ++ ys)) → AllZip R all done
zip_done R [] all done none so = subst (λ (l : List _). AllZip R all l) (append-nil done) (so [] tt)
zip_done R (x ∷ xs) all done none so = absurd (no_length x xs none)

-- the same, if as many are left of another list
pub zip_ended : {A B C : Type 0} (Q : A → C → Type 0) (R : A → B → Type 0) (left all : List A) (items : List C) (done : List B) → length items ≡ 0 → AllZip Q left items
    → ((ys : List B) → AllZip R left ys → AllZip R all (done ++ ys)) → AllZip R all done
zip_ended Q R [] all [] done none both so = subst (λ (l : List _). AllZip R all l) (append-nil done) (so [] tt)
zip_ended Q R (x ∷ xs) all [] done none both so = absurd both
zip_ended Q R left all (c ∷ cs) done none both so = absurd (no_length c cs none)

pub zip_none : {A B : Type 0} (R : A → B → Type 0) (all : List A) (done : List B) → done ≡ [] → (ys : List B) → AllZip R all ys → AllZip R all (done ++ ys)
zip_none R all done none ys h = subst (λ (l : List _). AllZip R all (l ++ ys)) (sym none) h

-- one more is done
pub zip_next : {A B : Type 0} (R : A → B → Type 0) (x : A) (left all : List A) (done new : List B) (y : B) → new ≡ done ++ y ∷ [] → R x y → ((ys : List B) → AllZip R (x ∷ left) ys → AllZip R all (done ++ ys))
    → (ys : List B) → AllZip R left ys → AllZip R all (new ++ ys)
zip_next R x left all done new y more one so ys rest =
    subst (λ (l : List _). AllZip R all l) (sym (ap (λ (l : List _). l ++ ys) more ∙ append_assoc done (y ∷ []) ys)) (so (y ∷ ys) (one, rest))

-- one more is begun, of those that are left
pub zip_begins : {A B : Type 0} (R : A → B → Type 0) (x : A) (items left all : List A) (done new : List B) (y : B) → items ≡ x ∷ left → new ≡ done ++ y ∷ [] → R x y
    → ((ys : List B) → AllZip R items ys → AllZip R all (done ++ ys)) → (ys : List B) → AllZip R left ys → AllZip R all (new ++ ys)
zip_begins R x items left all done new y is more one so =
    zip_next R x left all done new y more one (subst (λ (l : List _). (ys : List _) → AllZip R l ys → AllZip R all (done ++ ys)) is so)

-- one more is joined, of those that were begun
pub zip_joins : {A B C : Type 0} (Q : A → C → Type 0) (R : A → B → Type 0) (left all : List A) (c : C) (items rest : List C) (done new : List B) (y : B)
    → items ≡ c ∷ rest → new ≡ done ++ y ∷ [] → AllZip Q left items → ((x : A) → Q x c → R x y) → ((ys : List B) → AllZip R left ys → AllZip R all (done ++ ys))
    → (next : List A) × AllZip Q next rest × ((ys : List B) → AllZip R next ys → AllZip R all (new ++ ys))
zip_joins Q R [] all c items rest done new y is more both one so = absurd (subst (λ (l : List _). AllZip Q [] l) is both)
zip_joins Q R (x ∷ xs) all c items rest done new y is more both one so =
    let b : AllZip Q (x ∷ xs) (c ∷ rest) = subst (λ (l : List _). AllZip Q (x ∷ xs) l) is both in (
      xs,
      b.1,
      zip_next R x xs all done new y more (one x b.0) so,
    )

-- ---- connection by connection

module _ {R W : Type 0} (made : ReceiptText → Type 0) (limit : ℕ) (can_fail : R → Type 0) (remaining : R → Option (List ℕ)) (contents : W → Option (List ℕ)) where
  module _ {P : Type 0} (came : P → Option (List (ℕ × R × W))) (told : P → Option (List (End W))) where
    pub serving_none : (port : P) → IsServing made limit can_fail remaining contents came told port port
    serving_none port = record { connections = []; ends = []; gave = gains_none (came port); heard = gains_none (told port); each = tt }

    -- no connection came any more
    pub serving_still : (old mid new : P) (found : Option (ℕ × R × W)) → IsServing made limit can_fail remaining contents came told old mid → found ≡ None → Comes (came mid) (came new) found → Stays (told mid) (told new)
        → IsServing made limit can_fail remaining contents came told old new
    serving_still old mid new found s none comes still = record {
      connections = s.connections;
      ends = s.ends;
      gave = gains_still (came old) (came mid) (came new) s.connections s.gave (subst (λ (o : Option _). Comes (came mid) (came new) o) none comes);
      heard = gains_still (told old) (told mid) (told new) s.ends s.heard still;
      each = s.each;
    }

    -- one more connection came, and was served
    pub serving_more : (old mid after new : P) (found : Option (ℕ × R × W)) (c : ℕ × R × W) (end : End W) → IsServing made limit can_fail remaining contents came told old mid
        → found ≡ Some c → Comes (came mid) (came after) found → Stays (told mid) (told after) → IsServedBy made limit can_fail remaining contents c end
        → Stays (came after) (came new) → Gains (told after) (told new) (end ∷ []) → IsServing made limit can_fail remaining contents came told old new
    serving_more old mid after new found c end s is comes still served stays told_one =
        let one : Gains (came mid) (came after) (c ∷ []) = subst (λ (o : Option _). Comes (came mid) (came after) o) is comes in record {
          connections = s.connections ++ c ∷ [];
          ends = s.ends ++ end ∷ [];
          gave = gains_still (came old) (came after) (came new) (s.connections ++ c ∷ []) (gains_both (came old) (came mid) (came after) s.connections (c ∷ []) s.gave one) stays;
          heard = gains_both (told old) (told mid) (told new) s.ends (end ∷ []) s.heard (still_gains (told mid) (told after) (told new) (end ∷ []) still told_one);
          each = zip_snoc (IsServedBy made limit can_fail remaining contents) s.connections s.ends c end s.each served;
        }

    module _ (closed : P → Type 0) where
      -- a line is begun, so its port is
      pub begun_port : {N : Type 0} (line : PortLine P R W) (begun : Begun N (PortLine P R W))
          → IsBegunAs (λ k old new. IsPortServed made k can_fail remaining contents came told closed old.port new.port) limit line begun → IsPortBegun made limit can_fail remaining contents came told closed line.port begun
      begun_port line (Worker handle) is = (is.0, ap (λ (l : PortLine P R W). l.port) is.1)
      begun_port line (Ended done) is = is
