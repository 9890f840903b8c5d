-- A whole fetch over real nodes: rounds one after another, and what they come to.
use Rattle.std.proofs.Common.{arith, ◌≡◌, ◌≢◌, ◌+◌, ℕ, ◌⊎◌, Option, Some, None, Result, Ok, Err, add_assoc, inl, inr, min, refl, sym, ap, ◌∙◌, subst, zero-add}
use Rattle.std.specs.Prelude.{IfErr, IfOk}
use Rattle.vc_files.specs.Failures.{greatest_count}
use Rattle.vc_model.specs.Clone.{CloneNode}
use Rattle.vc_model.specs.Exchange.{FetchEnds, IsCaughtUp, IsFewer, IsLast, IsUndone}
use Rattle.vc_model.specs.Exchange.FetchEnds.{moved, failed}
use Rattle.vc_model.specs.Node.{Answer, Failure, Reply}
use Rattle.vc_model.specs.Node.Answer.{Did, Declined, Fault}
use Rattle.vc_model.specs.Node.Reply.{Moved, Reported, Sends}
use Rattle.vc_model.specs.Repository.{Repository}
use Rattle.vc_model.specs.Shared.{SharedNode}
use Rattle.vc_node.specs.CloneFaults.{fault_answer}
use Rattle.vc_node.specs.declared.clone_fault.CloneFault.{CloneFault}
use Rattle.vc_node.specs.declared.clone_fault.CloneFault.TheVariants.{Incomplete, NoValue, Node, TooMany, Unexpected, Unread}
use Rattle.vc_local.proofs.FaultLemmas.{node_undone}
use Rattle.vc_values.proofs.GitLaws.{git_rules}
use Rattle.vc_rules.specs.Git.{git}
use Rattle.vc_world.specs.Chains.{MayFetch, MayRound, moved_by}
use Rattle.vc_world.specs.Chains.InRounds.{again, last}
use Rattle.vc_world.specs.Exchanging.{CatchesUp, EndsInFault, FetchedAs, IsFetch, IsRound, Leads, MovesNone, RoundAs}
use Rattle.vc_world.specs.declared.ending.ExchangeEnd.{ExchangeEnd}
use Rattle.vc_world.specs.declared.ending.ExchangeEnd.TheVariants.{Clone, Memory, Shared, Stray}
use Rattle.vc_world.specs.declared.fetching.Fetched.{Fetched}
use Rattle.vc_world.proofs.Rounds.{fetch_comes}
use Rattle.vc_world.proofs.Tracked.{git_can_be_tracked}

-- ---- refusals

pub clone_undone : (e : CloneFault) → IsUndone (fault_answer e)
clone_undone (Unread fault) = tt
clone_undone Unexpected = tt
clone_undone TooMany = tt
clone_undone (Incomplete id) = tt
clone_undone (NoValue refusal) = tt
clone_undone (Node fault) = node_undone fault

undone_last : (before : Option ℕ) (a : Answer) → IsUndone a → IsLast before a
undone_last before (Did y) h = absurd h
undone_last before (Declined n) h = tt
undone_last before (Fault f) h = tt

pub undone_did : (a b : Answer) (y : Reply) → a ≡ b → IsUndone b → a ≡ Did y → ⊥
undone_did a b y e h is = subst IsUndone (sym e ∙ is) h

none_last : (before : Option ℕ) (a : Answer) → MovesNone a → IsLast before a
none_last before a (inl is) = subst (IsLast before) (sym is) tt
none_last before a (inr is) = subst (IsLast before) (sym is.2) tt

pub did_no_fault : (y : Reply) (f : Failure) → Did y ≡ Fault f → ⊥
did_no_fault y f e = absurd (cc)

-- ---- rounds

-- a count that stops, and so many more
counts : (most so_far counted more sum : ℕ) → counted ≡ min so_far most → sum ≡ min (counted + more) most → sum ≡ min (so_far + more) most
counts most so_far counted more sum is added = omega arith

-- What goes on from here is a fetch from the beginning, of whose moves so many are counted.
pub record GoesOn (before : Option ℕ) (counted : ℕ) (s : SharedNode) (c : CloneNode) (t : SharedNode) (d : CloneNode) : Type 0 where
  so_far : ℕ
  is_counted : counted ≡ min so_far greatest_count
  rest : (a : Answer) (u : SharedNode) (e : CloneNode) (moved : ℕ) → MayFetch git git_rules before t d a u e moved → MayFetch git git_rules None s c a u e (so_far + moved)

module _ {P R C : Type 0} (holds : P → SharedNode → Type 0) (told : R → Answer) (holds_clone : C → CloneNode → Type 0) where
  pub begins : (old : P) (was : C) → Leads holds holds_clone old old was was (GoesOn None 0)
  begins old was = record {
    each = λ s c hs hc. (
      s,
      c,
      hs,
      hc,
      record { so_far = 0; is_counted = refl; rest = λ a u e moved k. subst (λ n. MayFetch git git_rules None s c a u e n) (sym (zero-add moved)) k },
    );
  }

  pub goes_on : (before : Option ℕ) (fetched : Fetched) (counted sum : ℕ) (old now new : P) (was is after : C) → Leads holds holds_clone old now was is (GoesOn before counted) → Leads holds holds_clone now new is after (IsRound told (Ok fetched))
      → sum ≡ min (counted + fetched.moved) greatest_count → fetched.left ≢ 0 → IsFewer before fetched.left → Leads holds holds_clone old new was after (GoesOn (Some fetched.left) sum)
  goes_on before fetched counted sum old now new was is after so_far round added some fewer = record {
    each = λ s c hs hc.
        let w = so_far.each s c hs hc in
        let r = round.each w.0 w.1 w.2 w.3 in
        let k : MayRound git git_rules w.0 w.1 (Did (Moved fetched.moved fetched.left)) r.0 r.1 = subst (λ a. MayRound git git_rules w.0 w.1 a r.0 r.1) r.4.1 r.4.2 in
        let g = w.4 in (
          r.0,
          r.1,
          r.2,
          r.3,
          record {
            so_far = g.so_far + fetched.moved;
            is_counted = counts greatest_count g.so_far counted fetched.moved sum g.is_counted added;
            rest = λ a u e moved rest. subst (λ n. MayFetch git git_rules None s c a u e n) (sym (add_assoc g.so_far fetched.moved moved)) (g.rest a u e (fetched.moved + moved) (again fetched.moved fetched.left k some fewer rest));
          },
        );
  }

  round_last : (before : Option ℕ) (e : ExchangeEnd R) (a : Answer) → RoundAs told (Err e) a → IsLast before a
  round_last before (Clone fault) a h = subst (IsLast before) (sym h) (undone_last before (fault_answer fault) (clone_undone fault))
  round_last before (Shared refusal) a h = subst (IsLast before) (sym h.0) (undone_last before (told refusal) h.1)
  round_last before Stray a h = none_last before a h
  round_last before Memory a h = absurd h

  pub breaks_off : (before : Option ℕ) (counted : ℕ) (end : ExchangeEnd R) (old now new : P) (was is after : C) → Leads holds holds_clone old now was is (GoesOn before counted) → Leads holds holds_clone now new is after (IsRound told (Err end))
      → Leads holds holds_clone old new was after (IsFetch told None (Err end))
  breaks_off before counted end old now new was is after so_far round = record {
    each = λ s c hs hc.
        let w = so_far.each s c hs hc in
        let r = round.each w.0 w.1 w.2 w.3 in
        let g = w.4 in
        (r.0, r.1, r.2, r.3, (r.4.0, g.so_far + moved_by r.4.0, r.4.1, g.rest r.4.0 r.0 r.1 (moved_by r.4.0) (last r.4.2 (round_last before end r.4.0 r.4.1))));
  }

  pub comes_to_end : (before : Option ℕ) (round fetched : Fetched) (counted : ℕ) (old now new : P) (was is after : C) → Leads holds holds_clone old now was is (GoesOn before counted) → Leads holds holds_clone now new is after (IsRound told (Ok round))
      → fetched.left ≡ round.left → fetched.moved ≡ min (counted + round.moved) greatest_count → (round.left ≡ 0) ⊎ (¬ IsFewer before round.left) → Leads holds holds_clone old new was after (IsFetch told None (Ok fetched))
  comes_to_end before round fetched counted old now new was is after so_far leads same added over = record {
    each = λ s c hs hc.
        let w = so_far.each s c hs hc in
        let r = leads.each w.0 w.1 w.2 w.3 in
        let g = w.4 in
        let by : moved_by r.4.0 ≡ round.moved = ap moved_by r.4.1 in
        let all : fetched.moved ≡ min (g.so_far + round.moved) greatest_count = counts greatest_count g.so_far counted round.moved fetched.moved g.is_counted added in (
          r.0,
          r.1,
          r.2,
          r.3,
          (
            r.4.0,
            g.so_far + moved_by r.4.0,
            (
              round.moved,
              r.4.1 ∙ ap (λ (n : ℕ). Did (Moved round.moved n)) (sym same),
              all ∙ ap (λ (n : ℕ). min (g.so_far + n) greatest_count) (sym by),
            ),
            g.rest r.4.0 r.0 r.1 (moved_by r.4.0) (last r.4.2 (subst (IsLast before) (sym r.4.1) over)),
          ),
        );
  }

  -- ---- between nodes that are ready

  left_same : (n m k l : ℕ) → Did (Moved n k) ≡ Did (Moved m l) → k ≡ l
  left_same n m k l e = cc

  none_moved : (a : Answer) (n k : ℕ) → MovesNone a → a ≡ Did (Moved n k) → ⊥
  none_moved a n k (inl is) e = absurd (let x = is in cc)
  none_moved a n k (inr is) e = absurd (let x = is.2 in cc)

  none_failed : (a : Answer) (f : Failure) → MovesNone a → a ≡ Fault f → ⊥
  none_failed a f (inl is) e = did_no_fault Sends f (sym is ∙ e)
  none_failed a f (inr is) e = did_no_fault (Reported is.0 is.1) f (sym is.2 ∙ e)

  -- what the end of the machine's fetch is told as
  ends_ok : (s t : Repository) (fetched : Fetched) (a : Answer) (all : ℕ) (d : CloneNode) → FetchedAs told (Ok fetched) a all → FetchEnds s a d → t ≡ s → (fetched.left ≡ 0) × IsCaughtUp t d.repository
  ends_ok s t fetched a all d h (moved n is caught) same = (left_same h.0 n fetched.left 0 (sym h.1 ∙ is), subst (λ r. IsCaughtUp r d.repository) (sym same) caught)
  ends_ok s t fetched a all d h (failed f is) same = absurd (did_no_fault (Moved h.0 fetched.left) f (sym h.1 ∙ is))

  ends_err : (s : Repository) (end : ExchangeEnd R) (a : Answer) (d : CloneNode) → RoundAs told (Err end) a → FetchEnds s a d → EndsInFault told end
  ends_err s (Clone fault) a d h (moved n is caught) = absurd (undone_did a (fault_answer fault) (Moved n 0) h (clone_undone fault) is)
  ends_err s (Clone fault) a d h (failed f is) = (f, sym h ∙ is)
  ends_err s (Shared refusal) a d h (moved n is caught) = absurd (undone_did a (told refusal) (Moved n 0) h.0 h.1 is)
  ends_err s (Shared refusal) a d h (failed f is) = (f, sym h.0 ∙ is)
  ends_err s Stray a d h (moved n is caught) = none_moved a n 0 h is
  ends_err s Stray a d h (failed f is) = none_failed a f h is
  ends_err s Memory a d h ends = absurd h

  catches : (result : Result Fetched (ExchangeEnd R)) (s t : SharedNode) (c d : CloneNode) (a : Answer) (all : ℕ) → FetchedAs told result a all → FetchEnds s.repository a d → t.repository ≡ s.repository
      → IfOk result (λ fetched. (fetched.left ≡ 0) × IsCaughtUp t.repository d.repository) × IfErr result (EndsInFault told)
  catches (Ok fetched) s t c d a all h ends same = (ends_ok s.repository t.repository fetched a all d h ends same, tt)
  catches (Err end) s t c d a all h ends same = (tt, ends_err s.repository end a d h ends)

  pub catches_up : (result : Result Fetched (ExchangeEnd R)) (old new : P) (was is : C) → Leads holds holds_clone old new was is (IsFetch told None result) → Leads holds holds_clone old new was is (CatchesUp told result)
  catches_up result old new was is leads = record {
    each = λ s c hs hc.
        let w = leads.each s c hs hc in (
          w.0,
          w.1,
          w.2,
          w.3,
          λ ready up.
              let r = fetch_comes git git_rules git_can_be_tracked s w.0 c w.1 w.4.0 w.4.1 ready up w.4.3 in
              let k = catches result s w.0 c w.1 w.4.0 w.4.1 w.4.2 r.2 r.4 in (k.0, k.1, r.3, r.4),
        );
  }
