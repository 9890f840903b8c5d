-- The rounds of a fetch, as real nodes tell of their calls.
use Rattle.std.proofs.Common.{◌≡◌, ℕ, List, Option, None, Result, Ok, Err, inl, inr, refl, sym, ap, subst}
use Rattle.std.specs.Global.{Global}
use Rattle.std.specs.Prelude.{Vec}
use Rattle.vc_files.specs.FileMap.{FileMap}
use Rattle.vc_message.specs.Machine.{Reads}
use Rattle.vc_message.specs.Told.{SendsBytes}
use Rattle.vc_model.specs.Clone.{CloneNode}
use Rattle.vc_model.specs.Clone.Task.{StartFetch}
use Rattle.vc_model.specs.CloneCall.CloneCall.{Command, Receive}
use Rattle.vc_model.specs.Message.{Message}
use Rattle.vc_model.specs.Node.{Answer}
use Rattle.vc_model.specs.Shared.{SharedNode}
use Rattle.vc_node.specs.CloneCalls.{ReceivedAs, SentAs}
use Rattle.vc_node.specs.Held.{Held}
use Rattle.vc_node.specs.declared.clone_fault.CloneFault.{CloneFault}
use Rattle.vc_node.specs.declared.exchanging.Received.{Received}
use Rattle.vc_node.specs.declared.exchanging.Received.TheVariants.{Moved, Reported, Send}
use Rattle.vc_values.proofs.GitLaws.{git_rules}
use Rattle.vc_rules.specs.Git.{git}
use Rattle.vc_world.specs.Chains.{CloneMayAnswer, CloneMaySend, MayRest, MayRound, MayServe, SharedMaySend}
use Rattle.vc_world.specs.Chains.MayRest.{unpacked, packed}
use Rattle.vc_world.specs.Chains.MayRound.{advertised, unasked, unlisted, packed as round_packed, unpacked as round_unpacked}
use Rattle.vc_world.specs.Fetching.{next_of, settled}
use Rattle.vc_world.specs.declared.fetching.Next.{Next}
use Rattle.vc_world.specs.declared.fetching.Next.TheVariants.{Ask, End}
use Rattle.vc_world.specs.Exchanging.{AnswersPeer, Brings, HoldsClone, IsRest, IsRound, Leads, RoundAs}
use Rattle.vc_world.specs.declared.ending.ExchangeEnd.{ExchangeEnd}
use Rattle.vc_world.specs.declared.ending.ExchangeEnd.TheVariants.{Clone, Shared, Stray}
use Rattle.vc_world.specs.declared.fetching.Fetched.{Fetched}
use Rattle.vc_world.specs.declared.peer.Reply.{Reply}
use Rattle.vc_world.proofs.Legs.{Calls, Led, answered, led, refused}

end_same : {R : Type 0} (x y : Result Fetched (ExchangeEnd R)) → ◌≡◌ {A = Next R} (End x) (End y) → x ≡ y
end_same x y e = cc

ask_same : {R : Type 0} (x y : Vec ℕ Global) → ◌≡◌ {A = Next R} (Ask x) (Ask y) → x ≡ y
ask_same x y e = cc

-- a round whose want has come
round_rest : (s : SharedNode) (c e f : CloneNode) (u t : SharedNode) (d : CloneNode) (list advert want : Message) (a : Answer) → CloneMaySend git git_rules c (Command StartFetch) e list → SharedMaySend git git_rules s list u advert
    → CloneMaySend git git_rules e (Receive advert) f want → MayRest git git_rules want u f a t d → MayRound git git_rules s c a t d
round_rest s c e f u t d list advert want a lists tells asks (unpacked k same) = round_unpacked e u list advert want lists tells (subst (λ d. CloneMaySend git git_rules e (Receive advert) d want) (sym same) asks) k
round_rest s c e f u t d list advert want a lists tells asks (packed pack sends gives k) = round_packed e f u list advert want pack sends lists tells asks gives k

module _ {P R F A : Type 0} (holds : P → SharedNode → Type 0) (told : R → Answer) (remaining : A → Option (List ℕ)) (content : F → FileMap) where
  pub no_pack : (m : Message) (refusal : R) (old new : P) (was : Held F) → AnswersPeer holds told remaining m (Err refusal) old new
      → Leads holds (HoldsClone content) old new was was (IsRest told m (Err (Shared refusal)))
  no_pack m refusal old new was k = record {
    each = λ s c hs hc.
        let w = refused holds told remaining m refusal old new s k hs in
        (w.node, c, w.held, hc, (w.answer, (w.shown.0.answer, w.shown.1), unpacked (subst (λ sends. MayServe git git_rules m s w.answer w.node sends) w.shown.0.sent w.may) refl));
  }

  -- the clone's call with the message that came back
  abbrev pub Takes : Reply A → Result Received CloneFault → Held F → Held F → Type 0
  Takes reply received was is = (m : Message) → Brings remaining reply m → Calls content (Receive m) (ReceivedAs received) was is

  -- what is received ends the round so
  abbrev pub Settles : Result Received CloneFault → Result Fetched (ExchangeEnd R) → Type 0
  Settles received result = (a : Answer) (sends : Option Message) → ReceivedAs received a sends → RoundAs told result a

  pub with_pack : (m : Message) (pack : Reply A) (received : Result Received CloneFault) (result : Result Fetched (ExchangeEnd R)) (old new : P) (was is : Held F)
      → AnswersPeer holds told remaining m (Ok pack) old new → Takes pack received was is → Settles received result → Leads holds (HoldsClone content) old new was is (IsRest told m result)
  with_pack m pack received result old new was is k takes settles = record {
    each = λ s c hs hc.
        let w = answered holds told remaining m pack old new s k hs in
        let q = w.message in
        let v = led content (Receive q) (ReceivedAs received) was is c (takes q w.brings) hc in (
          w.node,
          v.node,
          w.held,
          v.held,
          (
            v.answer,
            settles v.answer v.sends v.shown,
            packed q v.sends w.tells v.may,
          ),
        );
  }

  pub settles : (received : Result Received CloneFault) → Settles received (settled received)
  settles (Ok (Moved moved left)) a sends shown = shown.answer
  settles (Ok (Send bytes)) a sends shown = inl shown.answer
  settles (Ok (Reported moved reasons)) a sends shown = inr (moved, reasons.items, shown.answer)
  settles (Err fault) a sends shown = shown.answer

  pub pack_comes : (m : Message) (pack : Reply A) (received : Result Received CloneFault) (result : Result Fetched (ExchangeEnd R)) (old new : P) (was is : Held F)
      → AnswersPeer holds told remaining m (Ok pack) old new → Takes pack received was is → result ≡ settled received → Leads holds (HoldsClone content) old new was is (IsRest told m result)
  pack_comes m pack received result old new was is k takes e = with_pack m pack received result old new was is k takes (subst (Settles received) (sym e) (settles received))

  -- ---- a whole round

  pub unstarted : (old : P) (fault : CloneFault) (was is : Held F) → Calls content (Command StartFetch) (SentAs (Err fault)) was is → Leads holds (HoldsClone content) old old was is (IsRound told (Err (Clone fault)))
  unstarted old fault was is k = record {
    each = λ s c hs hc.
        let v = led content (Command StartFetch) (SentAs (Err fault)) was is c k hc in
        (s, v.node, hs, v.held, (v.answer, v.shown.answer, unasked (subst (λ sends. CloneMayAnswer git git_rules c (Command StartFetch) v.answer v.node sends) v.shown.sent v.may) refl));
  }

  -- the clone has sent its list
  record Listed (c : CloneNode) (bytes : List ℕ) (is : Held F) : Type 0 where
    node : CloneNode
    held : HoldsClone content is node
    list : Message
    reads : Reads bytes list
    sends : CloneMaySend git git_rules c (Command StartFetch) node list

  listed : (bytes : Vec ℕ Global) (was is : Held F) (c : CloneNode) → Calls content (Command StartFetch) (SentAs (Ok bytes)) was is → HoldsClone content was c → Listed c bytes.items is
  listed bytes was is c k hc =
      let v = led content (Command StartFetch) (SentAs (Ok bytes)) was is c k hc in
      record {
        node = v.node;
        held = v.held;
        list = v.shown.message;
        reads = v.shown.written.reads;
        sends = (v.answer, subst (λ sends. CloneMayAnswer git git_rules c (Command StartFetch) v.answer v.node sends) v.shown.sent v.may);
      }

  -- what the peer answers to the message of these bytes
  abbrev pub Answers : List ℕ → Result (Reply A) R → P → P → Type 0
  Answers bytes result old new = (m : Message) → Reads bytes m → AnswersPeer holds told remaining m result old new

  pub unanswered : (list : Vec ℕ Global) (sent : List ℕ) (refusal : R) (old new : P) (was is : Held F) → Calls content (Command StartFetch) (SentAs (Ok list)) was is → sent ≡ list.items
      → Answers sent (Err refusal) old new → Leads holds (HoldsClone content) old new was is (IsRound told (Err (Shared refusal)))
  unanswered list sent refusal old new was is k same asks = record {
    each = λ s c hs hc.
        let v = listed list was is c k hc in
        let w = refused holds told remaining v.list refusal old new s (asks v.list (subst (λ b. Reads b v.list) (sym same) v.reads)) hs in
        (w.node, v.node, w.held, v.held, (w.answer, (w.shown.0.answer, w.shown.1), unlisted v.list v.sends (subst (λ sends. MayServe git git_rules v.list s w.answer w.node sends) w.shown.0.sent w.may)));
  }

  -- the refs have come to the clone
  record Told (s : SharedNode) (c : CloneNode) (received : Result Received CloneFault) (new : P) (then : Held F) : Type 0 where
    middle : CloneNode
    list : Message
    advert : Message
    lists : CloneMaySend git git_rules c (Command StartFetch) middle list
    shared : SharedNode
    held : holds new shared
    tells : SharedMaySend git git_rules s list shared advert
    led_to : Led content (Receive advert) (ReceivedAs received) middle then

  come : (list : Vec ℕ Global) (advert : Reply A) (sent : List ℕ) (received : Result Received CloneFault) (old new : P) (was is then : Held F) (s : SharedNode) (c : CloneNode)
      → Calls content (Command StartFetch) (SentAs (Ok list)) was is → sent ≡ list.items → Answers sent (Ok advert) old new → Takes advert received is then
      → holds old s → HoldsClone content was c → Told s c received new then
  come list advert sent received old new was is then s c k same asks takes hs hc =
      let v = listed list was is c k hc in
      let w = answered holds told remaining v.list advert old new s (asks v.list (subst (λ b. Reads b v.list) (sym same) v.reads)) hs in
      let q = w.message in
      record {
        middle = v.node;
        list = v.list;
        advert = q;
        lists = v.sends;
        shared = w.node;
        held = w.held;
        tells = w.tells;
        led_to = led content (Receive q) (ReceivedAs received) is then v.node (takes q w.brings) v.held;
      }

  -- what ends a round here sends nothing, and is told so
  pub ends_so : (received : Result Received CloneFault) (result : Result Fetched (ExchangeEnd R)) → next_of received ≡ End result → (a : Answer) (sends : Option Message) → ReceivedAs received a sends
      → (sends ≡ None) × RoundAs told result a
  ends_so (Ok (Send bytes)) result e a sends shown = absurd (cc)
  ends_so (Ok (Moved moved left)) result e a sends shown = (shown.sent, subst (λ r. RoundAs told r a) (end_same (Ok (record { moved = moved; left = left })) result e) shown.answer)
  ends_so (Ok (Reported moved reasons)) result e a sends shown = (shown.sent, subst (λ r. RoundAs told r a) (end_same (Err Stray) result e) (inr (moved, reasons.items, shown.answer)))
  ends_so (Err fault) result e a sends shown = (shown.sent, subst (λ r. RoundAs told r a) (end_same (Err (Clone fault)) result e) shown.answer)

  pub ended : (list : Vec ℕ Global) (advert : Reply A) (sent : List ℕ) (received : Result Received CloneFault) (result : Result Fetched (ExchangeEnd R)) (old new : P) (was is then : Held F)
      → Calls content (Command StartFetch) (SentAs (Ok list)) was is → sent ≡ list.items → Answers sent (Ok advert) old new → Takes advert received is then → next_of received ≡ End result
      → Leads holds (HoldsClone content) old new was then (IsRound told result)
  ended list advert sent received result old new was is then k same asks takes e = record {
    each = λ s c hs hc.
        let w = come list advert sent received old new was is then s c k same asks takes hs hc in
        let v = w.led_to in
        let r = ends_so received result e v.answer v.sends v.shown in (
          w.shared,
          v.node,
          w.held,
          v.held,
          (v.answer, r.1, advertised w.middle w.list w.advert w.lists w.tells (subst (λ sends. CloneMayAnswer git git_rules w.middle (Receive w.advert) v.answer v.node sends) r.0 v.may)),
        );
  }

  -- what asks for a pack sends a want
  pub asks_so : (received : Result Received CloneFault) (want : Vec ℕ Global) → next_of {R = R} received ≡ Ask want → received ≡ Ok (Send want)
  asks_so (Ok (Send bytes)) want e = ap (λ b. Ok (Send b)) (ask_same bytes want e)
  asks_so (Ok (Moved moved left)) want e = absurd (cc)
  asks_so (Ok (Reported moved reasons)) want e = absurd (cc)
  asks_so (Err fault) want e = absurd (cc)

  pub wanted : (list : Vec ℕ Global) (advert : Reply A) (want : Vec ℕ Global) (sent asked : List ℕ) (received : Result Received CloneFault) (result : Result Fetched (ExchangeEnd R)) (old new last : P) (was is then end : Held F)
      → Calls content (Command StartFetch) (SentAs (Ok list)) was is → sent ≡ list.items → Answers sent (Ok advert) old new → Takes advert received is then → next_of {R = R} received ≡ Ask want
      → asked ≡ want.items → ((m : Message) → Reads asked m → Leads holds (HoldsClone content) new last then end (IsRest told m result)) → Leads holds (HoldsClone content) old last was end (IsRound told result)
  wanted list advert want sent asked received result old new last was is then end k same asks takes e same_want rest = record {
    each = λ s c hs hc.
        let w = come list advert sent received old new was is then s c k same asks takes hs hc in
        let v = w.led_to in
        let q : SendsBytes want.items v.answer v.sends = subst (λ r. ReceivedAs r v.answer v.sends) (asks_so received want e) v.shown in
        let r = (rest q.message (subst (λ b. Reads b q.message) (sym same_want) q.written.reads)).each w.shared v.node w.held v.held in (
          r.0,
          r.1,
          r.2,
          r.3,
          (
            r.4.0,
            r.4.1,
            round_rest s c w.middle v.node w.shared r.0 r.1 w.list w.advert q.message r.4.0 w.lists w.tells
                (v.answer, subst (λ sends. CloneMayAnswer git git_rules w.middle (Receive w.advert) v.answer v.node sends) q.sent v.may) r.4.2,
          ),
        );
  }
