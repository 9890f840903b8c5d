-- The rounds of a fetch at the clone alone, whoever answers.
use Rattle.std.proofs.Common.{◌≡◌, ◌≢◌, ◌+◌, ◌⊎◌, ℕ, List, [], ◌∷◌, ◌++◌, Option, Some, None, Result, Ok, Err, add_assoc, append-nil, append_assoc, arith, min, refl, sym, ap, ◌∙◌, subst, zero-add}
use Rattle.std.specs.Global.{Global}
use Rattle.std.specs.Prelude.{Vec}
use Rattle.vc_files.specs.Failures.{greatest_count}
use Rattle.vc_files.specs.FileMap.{FileMap}
use Rattle.vc_message.specs.Told.{SendsBytes}
use Rattle.vc_model.specs.Clone.{CloneNode}
use Rattle.vc_model.specs.Clone.Task.{StartFetch}
use Rattle.vc_model.specs.CloneCall.{CloneAnswers, CloneCall}
use Rattle.vc_model.specs.CloneCall.CloneCall.{Command}
use Rattle.vc_model.specs.Exchange.{IsFewer}
use Rattle.vc_model.specs.Message.{Message}
use Rattle.vc_model.specs.Node.{Answer}
use Rattle.vc_model.specs.Node.Answer.{Declined}
use Rattle.vc_model.specs.Repository.{IsSound}
use Rattle.vc_node.specs.CloneCalls.{ReceivedAs, SentAs}
use Rattle.vc_node.specs.Held.{Held}
use Rattle.vc_node.specs.declared.clone_fault.CloneFault.{CloneFault}
use Rattle.vc_node.specs.declared.exchanging.Received.{Received}
use Rattle.vc_rules.specs.Git.{git}
use Rattle.vc_trail.specs.Trail.{IsExchanged, Trail, Turn, clone_after}
use Rattle.vc_trail.proofs.Steps.{after_both, both_called, both_trails, brought_exchanged, trail_sound, turn_sound}
use Rattle.vc_values.proofs.GitLaws.{git_rules}
use Rattle.vc_world.specs.Alone.{Along, Asked, EndsAs, FetchAlone, IsLetter, LeadsAlone, RestAlone, RoundAlone, RoundsAlone, Saying, TakesReply, moved_in}
use Rattle.vc_world.specs.Alone.RestAlone.{packed, unpacked}
use Rattle.vc_world.specs.Alone.RoundAlone.{advertised, unasked, unlisted, wanted}
use Rattle.vc_world.specs.Alone.RoundsAlone.{again, last}
use Rattle.vc_world.specs.Chains.{moved_by}
use Rattle.vc_world.specs.Exchanging.{HoldsClone}
use Rattle.vc_world.specs.Fetching.{next_of, settled}
use Rattle.vc_world.specs.declared.ending.ExchangeEnd.{ExchangeEnd}
use Rattle.vc_world.specs.declared.ending.ExchangeEnd.TheVariants.{Clone, Shared}
use Rattle.vc_world.specs.declared.fetching.Fetched.{Fetched}
use Rattle.vc_world.specs.declared.fetching.Next.TheVariants.{Ask, End}
use Rattle.vc_world.specs.declared.peer.Reply.{Reply}
use Rattle.vc_world.proofs.Legs.{Calls, led}
use Rattle.vc_world.proofs.RoundCalls.{asks_so, ends_so, settles}

-- ---- one call

-- A call leads on from a sound clone, to one that is sound.
pub record Turned {F : Type 0} (content : F → FileMap) (call : CloneCall) (Shows : Answer → Option Message → Type 0) (c : CloneNode) (is : Held F) : Type 0 where
  pub turn : Turn
  pub is_call : turn.call ≡ call
  pub answers : CloneAnswers git git_rules c turn.call turn.answer turn.node turn.sends
  pub exchanged : IsExchanged git turn.call
  pub held : HoldsClone content is turn.node
  pub sound : IsSound git turn.node.repository
  pub shown : Shows turn.answer turn.sends

pub turned : {F : Type 0} (content : F → FileMap) (call : CloneCall) (Shows : Answer → Option Message → Type 0) (was is : Held F) (c : CloneNode) → Calls content call Shows was is → IsExchanged git call → HoldsClone content was c → IsSound git c.repository
    → Turned content call Shows c is
turned content call Shows was is c k exchanged held sound =
    let v = led content call Shows was is c k held in
    let answers = v.may sound in
    record {
      turn = record { call = call; answer = v.answer; sends = v.sends; node = v.node };
      is_call = refl;
      answers = answers;
      exchanged = exchanged;
      held = v.held;
      sound = turn_sound git git_rules c v.node call v.answer v.sends sound exchanged answers;
      shown = v.shown;
    }

-- ---- one trail after another

pub then_along : {C : Type 0} (holds : C → CloneNode → Type 0) (is : C) (Early Late Both : Trail → Type 0) (middle : C) (c : CloneNode) → (a : Along holds middle Early c) → (b : Along holds is Late (clone_after c a.trail)) → Both (b.trail ++ a.trail) → Along holds is Both c
then_along holds is Early Late Both middle c a b both = record {
  trail = b.trail ++ a.trail;
  is_trail = both_trails git git_rules c b.trail a.trail a.is_trail b.is_trail;
  exchanged = both_called git git_rules b.trail a.trail a.exchanged b.exchanged;
  held = subst (holds is) (sym (after_both git git_rules c b.trail a.trail)) b.held;
  comes = both;
}

-- two pieces of a fetch, one after the other
pub leads_on : {C : Type 0} (holds : C → CloneNode → Type 0) (was middle is : C) (Early Late Both : Trail → Type 0) → LeadsAlone holds was middle Early → LeadsAlone holds middle is Late → ((ts us : Trail) → Early ts → Late us → Both (us ++ ts)) → LeadsAlone holds was is Both
leads_on holds was middle is Early Late Both early late both = record {
  each = λ c held sound.
      let a = early.each c held sound in
      let b = late.each (clone_after c a.trail) a.held (trail_sound git git_rules c a.trail sound a.is_trail a.exchanged) in
      then_along holds is Early Late Both middle c a b (both a.trail b.trail a.comes b.comes);
}

module _ {P R F A : Type 0} (says : Saying P R A) (remaining : A → Option (List ℕ)) (content : F → FileMap) where
  -- ---- the rest of a round

  pub none_packed : (want : List ℕ) (refusal : R) (p q : P) (was : Held F) (l : Turn) → says p want (Err refusal) q → SendsBytes want l.answer l.sends
      → LeadsAlone (HoldsClone content) was was (RestAlone says remaining l p (Err (Shared refusal)) q)
  none_packed want refusal p q was l said sent = record {
    each = λ c held sound. record { trail = []; is_trail = tt; exchanged = tt; held = held; comes = unpacked refusal (want, sent, said) refl refl };
  }

  -- what ends a round is told so
  settles_as : (received : Result Received CloneFault) (a : Answer) (sends : Option Message) → ReceivedAs received a sends → EndsAs {R = R} (settled received) a
  settles_as received a sends shown told = settles {P = P} {R = R} {F = F} {A = A} (λ p s. ⊥) told remaining content received a sends shown

  pub pack_taken : (want : List ℕ) (pack : Reply A) (received : Result Received CloneFault) (result : Result Fetched (ExchangeEnd R)) (p q : P) (was is : Held F) (l : Turn) → says p want (Ok pack) q → SendsBytes want l.answer l.sends
      → TakesReply content remaining pack received was is → result ≡ settled received → LeadsAlone (HoldsClone content) was is (RestAlone says remaining l p result q)
  pack_taken want pack received result p q was is l said sent takes e = record {
    each = λ c held sound.
        let v = turned content takes.call _ was is c takes.answers (brought_exchanged git takes.call takes.brought) held sound in
        record {
          trail = v.turn ∷ [];
          is_trail = (v.answers, tt);
          exchanged = (v.exchanged, tt);
          held = v.held;
          comes = packed pack v.turn (want, sent, said) (subst (λ call. IsLetter remaining pack call v.turn.answer) (sym v.is_call) v.shown.0)
              (subst (λ r. EndsAs r v.turn.answer) (sym e) (settles_as received v.turn.answer v.turn.sends v.shown.1)) refl;
        };
  }

  -- ---- a round

  pub not_started : (fault : CloneFault) (p : P) (was is : Held F) → Calls content (Command StartFetch) (SentAs (Err fault)) was is → LeadsAlone (HoldsClone content) was is (RoundAlone says remaining p (Err (Clone fault)) p)
  not_started fault p was is k = record {
    each = λ c held sound.
        let v = turned content (Command StartFetch) (SentAs (Err fault)) was is c k tt held sound in
        record { trail = v.turn ∷ []; is_trail = (v.answers, tt); exchanged = (v.exchanged, tt); held = v.held; comes = unasked v.turn fault v.is_call v.shown.answer refl refl refl };
  }

  -- the clone has sent its list
  abbrev pub Lists : Vec ℕ Global → Held F → Held F → Type 0
  Lists list was is = Calls content (Command StartFetch) (SentAs (Ok list)) was is

  pub none_listed : (list : Vec ℕ Global) (sent : List ℕ) (refusal : R) (p q : P) (was is : Held F) → Lists list was is → sent ≡ list.items → says p sent (Err refusal) q
      → LeadsAlone (HoldsClone content) was is (RoundAlone says remaining p (Err (Shared refusal)) q)
  none_listed list sent refusal p q was is k same said = record {
    each = λ c held sound.
        let v = turned content (Command StartFetch) (SentAs (Ok list)) was is c k tt held sound in
        record {
          trail = v.turn ∷ [];
          is_trail = (v.answers, tt);
          exchanged = (v.exchanged, tt);
          held = v.held;
          comes = unlisted v.turn refusal v.is_call (list.items, v.shown, subst (λ b. says p b (Err refusal) q) same said) refl refl;
        };
  }

  pub round_ended : (list : Vec ℕ Global) (sent : List ℕ) (advert : Reply A) (received : Result Received CloneFault) (result : Result Fetched (ExchangeEnd R)) (p q : P) (was is then : Held F) → Lists list was is → sent ≡ list.items → says p sent (Ok advert) q
      → TakesReply content remaining advert received is then → next_of received ≡ End result → LeadsAlone (HoldsClone content) was then (RoundAlone says remaining p result q)
  round_ended list sent advert received result p q was is then k same said takes e = record {
    each = λ c held sound.
        let v = turned content (Command StartFetch) (SentAs (Ok list)) was is c k tt held sound in
        let w = turned content takes.call _ is then v.turn.node takes.answers (brought_exchanged git takes.call takes.brought) v.held v.sound in
        let quiet = λ (told : R → Answer). ends_so {P = P} {R = R} {F = F} {A = A} (λ p s. ⊥) told remaining content received result e w.turn.answer w.turn.sends w.shown.1 in
        record {
          trail = w.turn ∷ v.turn ∷ [];
          is_trail = (w.answers, (v.answers, tt));
          exchanged = (w.exchanged, (v.exchanged, tt));
          held = w.held;
          comes = advertised v.turn w.turn advert v.is_call (list.items, v.shown, subst (λ b. says p b (Ok advert) q) same said) (subst (λ call. IsLetter remaining advert call w.turn.answer) (sym w.is_call) w.shown.0)
              (quiet (λ r. Declined 0)).0 (λ told. (quiet told).1) refl;
        };
  }

  pub round_wanted : (list : Vec ℕ Global) (sent : List ℕ) (advert : Reply A) (want : Vec ℕ Global) (asked : List ℕ) (received : Result Received CloneFault) (result : Result Fetched (ExchangeEnd R)) (p middle q : P) (was is then end : Held F) → Lists list was is → sent ≡ list.items
      → says p sent (Ok advert) middle → TakesReply content remaining advert received is then → next_of {R = R} received ≡ Ask want → asked ≡ want.items
      → ((l : Turn) → SendsBytes asked l.answer l.sends → LeadsAlone (HoldsClone content) then end (RestAlone says remaining l middle result q)) → LeadsAlone (HoldsClone content) was end (RoundAlone says remaining p result q)
  round_wanted list sent advert want asked received result p middle q was is then end k same said takes e wants rest = record {
    each = λ c held sound.
        let v = turned content (Command StartFetch) (SentAs (Ok list)) was is c k tt held sound in
        let w = turned content takes.call _ is then v.turn.node takes.answers (brought_exchanged git takes.call takes.brought) v.held v.sound in
        let sends : SendsBytes want.items w.turn.answer w.turn.sends = subst (λ r. ReceivedAs r w.turn.answer w.turn.sends) (asks_so {P = P} {R = R} {F = F} {A = A} (λ p s. ⊥) (λ r. Declined 0) remaining content received want e) w.shown.1 in
        let more = (rest w.turn (subst (λ b. SendsBytes b w.turn.answer w.turn.sends) (sym wants) sends)).each w.turn.node w.held w.sound in
        let so_far : Along (HoldsClone content) then (λ ts. Unit {0}) c = record { trail = w.turn ∷ v.turn ∷ []; is_trail = (w.answers, (v.answers, tt)); exchanged = (w.exchanged, (v.exchanged, tt)); held = w.held; comes = tt } in
        then_along (HoldsClone content) end (λ ts. Unit {0}) (RestAlone says remaining w.turn middle result q) (RoundAlone says remaining p result q) then c so_far more
        (wanted v.turn w.turn advert middle more.trail v.is_call (list.items, v.shown, subst (λ b. says p b (Ok advert) middle) same said) (subst (λ call. IsLetter remaining advert call w.turn.answer) (sym w.is_call) w.shown.0) more.comes refl);
  }

  -- ---- how many refs moved

  moved_both : (us ts : Trail) → moved_in (us ++ ts) ≡ moved_in us + moved_in ts
  moved_both [] ts = sym (zero-add (moved_in ts))
  moved_both (u ∷ us) ts = ap (λ n. moved_by u.answer + n) (moved_both us ts) ∙ sym (add_assoc (moved_by u.answer) (moved_in us) (moved_in ts))

  no_end : (fetched : Fetched) (end : ExchangeEnd R) → ◌≡◌ {A = Result Fetched (ExchangeEnd R)} (Ok fetched) (Err end) → ⊥
  no_end fetched end e = absurd (cc)

  -- at a turn that only sent a message none moved
  none_by : (t : Turn) (p q : P) (given : Result (Reply A) R) → Asked says t p given q → moved_by t.answer ≡ 0
  none_by t p q given asked = ap moved_by asked.1.answer

  some_by : (t : Turn) (fetched : Fetched) → EndsAs {R = R} (Ok fetched) t.answer → moved_by t.answer ≡ fetched.moved
  some_by t fetched ends = ap moved_by (ends (λ r. Declined 0))

  two_moved : (x y n : ℕ) → x ≡ n → y ≡ 0 → x + (y + 0) ≡ n
  two_moved x y n e z = omega arith

  three_moved : (x y z n : ℕ) → x ≡ n → y ≡ 0 → z ≡ 0 → x + (y + (z + 0)) ≡ n
  three_moved x y z n e f g = omega arith

  rest_moved : (l t : Turn) (p q : P) (fetched : Fetched) (more : Trail) → moved_by t.answer ≡ 0 → RestAlone says remaining l p (Ok fetched) q more → moved_in (more ++ l ∷ t ∷ []) ≡ fetched.moved
  rest_moved l t p q fetched more z (unpacked refusal asked none is) = absurd (no_end fetched (Shared refusal) is)
  rest_moved l t p q fetched more z (packed reply k asked comes ends is) =
      ap (λ (ts : Trail). moved_in (ts ++ l ∷ t ∷ [])) is ∙ three_moved (moved_by k.answer) (moved_by l.answer) (moved_by t.answer) fetched.moved (some_by k fetched ends) (none_by l p q (Ok reply) asked) z

  round_moved : (p q : P) (fetched : Fetched) (ts : Trail) → RoundAlone says remaining p (Ok fetched) q ts → moved_in ts ≡ fetched.moved
  round_moved p q fetched ts (unasked t fault call answer one is same) = absurd (no_end fetched (Clone fault) is)
  round_moved p q fetched ts (unlisted t refusal call asked one is) = absurd (no_end fetched (Shared refusal) is)
  round_moved p q fetched ts (advertised t l reply call asked comes none ends two) = ap moved_in two ∙ two_moved (moved_by l.answer) (moved_by t.answer) fetched.moved (some_by l fetched ends) (none_by t p q (Ok reply) asked)
  round_moved p q fetched ts (wanted t l reply middle more call asked comes rest all) = ap moved_in all ∙ rest_moved l t middle q fetched more (none_by t p middle (Ok reply) asked) rest

  -- ---- rounds, one after another

  -- What goes on from here is a fetch from the beginning, of whose moves so many are counted.
  pub record GoesAlone (before : Option ℕ) (counted : ℕ) (p q : P) (ts : Trail) : Type 0 where
    is_counted : counted ≡ min (moved_in ts) greatest_count
    rest : (us : Trail) (end : Result Fetched (ExchangeEnd R)) (r : P) → RoundsAlone says remaining before q end r us → RoundsAlone says remaining None p end r (us ++ ts)

  pub begins_alone : (p : P) (was : Held F) → LeadsAlone (HoldsClone content) was was (GoesAlone None 0 p p)
  begins_alone p was = record {
    each = λ c held sound. record {
      trail = [];
      is_trail = tt;
      exchanged = tt;
      held = held;
      comes = record { is_counted = refl; rest = λ us end r k. subst (λ vs. RoundsAlone says remaining None p end r vs) (sym (append-nil us)) k };
    };
  }

  counts : (most all counted more sum both : ℕ) → counted ≡ min all most → sum ≡ min (counted + more) most → both ≡ more + all → sum ≡ min both most
  counts most all counted more sum both is added two = omega arith

  all_counted : (before : Option ℕ) (fetched : Fetched) (counted sum : ℕ) (p q r : P) (ts us : Trail) → GoesAlone before counted p q ts → RoundAlone says remaining q (Ok fetched) r us → sum ≡ min (counted + fetched.moved) greatest_count → sum ≡ min (moved_in (us ++ ts)) greatest_count
  all_counted before fetched counted sum p q r ts us goes round added =
      counts greatest_count (moved_in ts) counted fetched.moved sum (moved_in (us ++ ts)) goes.is_counted added (moved_both us ts ∙ ap (λ n. n + moved_in ts) (round_moved q r fetched us round))

  pub goes_alone : (before : Option ℕ) (fetched : Fetched) (counted sum : ℕ) (p q r : P) (was is after : Held F) → LeadsAlone (HoldsClone content) was is (GoesAlone before counted p q) → LeadsAlone (HoldsClone content) is after (RoundAlone says remaining q (Ok fetched) r)
      → sum ≡ min (counted + fetched.moved) greatest_count → fetched.left ≢ 0 → IsFewer before fetched.left → LeadsAlone (HoldsClone content) was after (GoesAlone (Some fetched.left) sum p r)
  goes_alone before fetched counted sum p q r was is after so_far round added some fewer =
      leads_on (HoldsClone content) was is after (GoesAlone before counted p q) (RoundAlone says remaining q (Ok fetched) r) (GoesAlone (Some fetched.left) sum p r) so_far round (λ ts us goes one. record {
        is_counted = all_counted before fetched counted sum p q r ts us goes one added;
        rest = λ vs end s k. subst (λ ws. RoundsAlone says remaining None p end s ws) (append_assoc vs us ts) (goes.rest (vs ++ us) end s (again fetched one some fewer k));
      })

  pub breaks_alone : (before : Option ℕ) (counted : ℕ) (end : ExchangeEnd R) (p q r : P) (was is after : Held F) → LeadsAlone (HoldsClone content) was is (GoesAlone before counted p q) → LeadsAlone (HoldsClone content) is after (RoundAlone says remaining q (Err end) r)
      → LeadsAlone (HoldsClone content) was after (FetchAlone says remaining p (Err end) r)
  breaks_alone before counted end p q r was is after so_far round =
      leads_on (HoldsClone content) was is after (GoesAlone before counted p q) (RoundAlone says remaining q (Err end) r) (FetchAlone says remaining p (Err end) r) so_far round
      (λ ts us goes one. (Err end, goes.rest us (Err end) r (last one tt), refl))

  pub ends_alone : (before : Option ℕ) (round fetched : Fetched) (counted : ℕ) (p q r : P) (was is after : Held F) → LeadsAlone (HoldsClone content) was is (GoesAlone before counted p q) → LeadsAlone (HoldsClone content) is after (RoundAlone says remaining q (Ok round) r)
      → fetched.left ≡ round.left → fetched.moved ≡ min (counted + round.moved) greatest_count → (round.left ≡ 0) ⊎ (¬ IsFewer before round.left) → LeadsAlone (HoldsClone content) was after (FetchAlone says remaining p (Ok fetched) r)
  ends_alone before round fetched counted p q r was is after so_far one same added over =
      leads_on (HoldsClone content) was is after (GoesAlone before counted p q) (RoundAlone says remaining q (Ok round) r) (FetchAlone says remaining p (Ok fetched) r) so_far one
      (λ ts us goes k. (
        Ok round,
        goes.rest us (Ok round) r (last k over),
        (round.moved, ap (λ (n : ℕ). ok_with round.moved n) (sym same), all_counted before round counted fetched.moved p q r ts us goes k added),
      ))
    where
      ok_with : ℕ → ℕ → Result Fetched (ExchangeEnd R)
      ok_with moved left = Ok (record { moved = moved; left = left })
