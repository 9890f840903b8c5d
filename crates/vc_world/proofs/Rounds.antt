-- Rounds of a fetch whose calls are the machine's.
use Rattle.std.proofs.Common.{◌≡◌, ℕ, Option, Some, None, sym, subst}
use Rattle.vc_model.specs.Object.{Format}
use Rattle.vc_model.specs.Repository.{IsBare, IsSound}
use Rattle.vc_model.specs.Message.{Message}
use Rattle.vc_model.specs.Node.{Answer, Failure}
use Rattle.vc_model.specs.Node.Answer.{Did, Fault}
use Rattle.vc_model.specs.Node.Reply.{Moved, Opened}
use Rattle.vc_model.specs.Shared.{SharedNode}
use Rattle.vc_model.specs.Clone.{CloneNode}
use Rattle.vc_model.specs.Clone.Task.{StartFetch}
use Rattle.vc_model.specs.Rules.{Rules}
use Rattle.vc_model.specs.SharedCall.{SharedAnswers}
use Rattle.vc_model.specs.SharedCall.SharedCall.{Accept}
use Rattle.vc_model.specs.CloneCall.CloneCall.{Command, Receive}
use Rattle.vc_model.specs.Exchange.{AreReady, AreUp, BranchesCanBeTracked, CloneSends, FetchEnds, FetchRound, Fetches, RoundEnds, SharedSends}
use Rattle.vc_model.specs.Exchange.FetchRound.{unasked, unlisted, advertised, unpacked, packed}
use Rattle.vc_model.specs.Exchange.RoundEnds.{moved, failed}
use Rattle.vc_model.specs.Exchange.Fetches.{last, again}
use Rattle.vc_model.proofs.Exchanges.{round_well}
use Rattle.vc_model.proofs.Fetches.{fetch_ends}
use Rattle.vc_world.specs.Chains.{CloneMaySend, FetchMoves, MayFetch, MayRound, MayServe, SharedMaySend}
use Rattle.vc_world.specs.Chains.MayServe.{at_once, stepped}
use Rattle.vc_world.specs.Chains.MayRound.{unasked as may_unasked, unlisted as may_unlisted, advertised as may_advertised, unpacked as may_unpacked, packed as may_packed}
use Rattle.vc_world.specs.Chains.InRounds.{last as in_last, again as in_again}
use Rattle.vc_world.proofs.Sent.{IsAsked, IsList, Stays, accepted_stays, asks, list_opens_none, sent_did, starts_fetch, want_opens_none}

no_fault : (n k : ℕ) (f : Failure) → Did (Moved n k) ≡ Fault f → ⊥
no_fault n k f e = absurd (cc)

module _ (fmt : Format) (rules : Rules fmt) where
  -- A sound and bare shared node answers a list or a want at once.
  serves_list : (s t : SharedNode) (m : Message) (a : Answer) (sends : Option Message) → IsSound fmt s.repository → IsBare fmt s.repository → IsList fmt rules m → MayServe fmt rules m s a t sends → SharedAnswers fmt rules s (Accept m) a t sends
  serves_list s t m a sends sound bare is (at_once k none) = k sound bare
  serves_list s t m a sends sound bare is (stepped u slot k more) = absurd (list_opens_none fmt rules s u slot (subst (λ (m : Message). SharedAnswers fmt rules s (Accept m) (Did (Opened slot)) u None) is (k sound bare)))

  serves_want : (s t : SharedNode) (m : Message) (a : Answer) (sends : Option Message) → IsSound fmt s.repository → IsBare fmt s.repository → IsAsked fmt rules m → MayServe fmt rules m s a t sends → SharedAnswers fmt rules s (Accept m) a t sends
  serves_want s t m a sends sound bare is (at_once k none) = k sound bare
  serves_want s t m a sends sound bare is (stepped u slot k more) = absurd (want_opens_none fmt rules s u is.0 is.1 slot (subst (λ (m : Message). SharedAnswers fmt rules s (Accept m) (Did (Opened slot)) u None) is.2 (k sound bare)))

  module _ (s : SharedNode) (c : CloneNode) (sound : IsSound fmt s.repository) (bare : IsBare fmt s.repository) (clone_sound : IsSound fmt c.repository) where
    -- The clone has sent its list.
    record Listed (e : CloneNode) (list : Message) : Type 0 where
      sends : CloneSends fmt rules c (Command StartFetch) e list
      is_list : IsList fmt rules list
      sound_then : IsSound fmt e.repository

    listed : (e : CloneNode) (list : Message) → CloneMaySend fmt rules c (Command StartFetch) e list → Listed e list
    listed e list k =
        let answers = k.1 clone_sound in
        let h : Stays fmt rules c e (IsList fmt rules) list = starts_fetch fmt rules c e k.0 list answers in
        record { sends = (k.0, answers); is_list = h.is_sent; sound_then = subst (IsSound fmt) (sym h.same) clone_sound }

    -- The shared node has sent its refs.
    record Told (u : SharedNode) (list advert : Message) : Type 0 where
      sends : SharedSends fmt rules s (Accept list) u advert
      sound_then : IsSound fmt u.repository
      bare_then : IsBare fmt u.repository

    told : (u : SharedNode) (list advert : Message) → IsList fmt rules list → SharedMaySend fmt rules s list u advert → Told u list advert
    told u list advert is k =
        let answers = serves_list s u list k.0 (Some advert) sound bare is k.1 in
        let y = sent_did fmt rules s u (Accept list) k.0 advert answers in
        let same : u.repository ≡ s.repository = accepted_stays fmt rules s u list y.0 (Some advert) (subst (λ (a : Answer). SharedAnswers fmt rules s (Accept list) a u (Some advert)) y.1 answers) in
        record { sends = (k.0, answers); sound_then = subst (IsSound fmt) (sym same) sound; bare_then = subst (IsBare fmt) (sym same) bare }

    -- The clone has asked for a pack.
    record Asked (e f : CloneNode) (advert want : Message) : Type 0 where
      sends : CloneSends fmt rules e (Receive advert) f want
      is_want : IsAsked fmt rules want
      sound_then : IsSound fmt f.repository

    asked : (e f : CloneNode) (advert want : Message) → IsSound fmt e.repository → CloneMaySend fmt rules e (Receive advert) f want → Asked e f advert want
    asked e f advert want fine k =
        let answers = k.1 fine in
        let h : Stays fmt rules e f (IsAsked fmt rules) want = asks fmt rules advert e f k.0 want answers in
        record { sends = (k.0, answers); is_want = h.is_sent; sound_then = subst (IsSound fmt) (sym h.same) fine }

    pub round_of : (t : SharedNode) (d : CloneNode) (a : Answer) → MayRound fmt rules s c a t d → FetchRound fmt rules s c a t d
    round_of t d a (may_unasked k same) = unasked (k clone_sound) same
    round_of t d a (may_unlisted list sent k) =
        let one = listed d list sent in
        unlisted list one.sends (serves_list s t list a None sound bare one.is_list k)
    round_of t d a (may_advertised e list advert sent tells k) =
        let one = listed e list sent in
        let two = told t list advert one.is_list tells in
        advertised e list advert one.sends two.sends (k one.sound_then)
    round_of t d a (may_unpacked e u list advert want sent tells asks k) =
        let one = listed e list sent in
        let two = told u list advert one.is_list tells in
        let three = asked e d advert want one.sound_then asks in
        unpacked e u list advert want one.sends two.sends three.sends (serves_want u t want a None two.sound_then two.bare_then three.is_want k)
    round_of t d a (may_packed e f u list advert want pack sends sent tells asks gives k) =
        let one = listed e list sent in
        let two = told u list advert one.is_list tells in
        let three = asked e f advert want one.sound_then asks in
        packed e f u list advert want pack sends one.sends two.sends three.sends (gives.0, serves_want u t want gives.0 (Some pack) two.sound_then two.bare_then three.is_want gives.1) (k three.sound_then)

  -- a fetch is one, however many refs it moved
  fetch_of : (before : Option ℕ) (s t : SharedNode) (c d : CloneNode) (a : Answer) (n : ℕ) → FetchMoves fmt rules before s c a t d n → Fetches fmt rules before s c a t d
  fetch_of before s t c d a n (in_last k over) = last k over
  fetch_of before s t c d a n (in_again {u = u} {e = e} {moved = more} m left k not fewer rest) = again m left k not fewer (fetch_of (Some left) u t e d a more rest)

  module _ (can : BranchesCanBeTracked fmt) where
    ready_round : (s t : SharedNode) (c d : CloneNode) (a : Answer) → AreReady fmt rules s c → MayRound fmt rules s c a t d → FetchRound fmt rules s c a t d
    ready_round s t c d a h k = round_of s c h.shared.good.sound h.shared.bare h.clone.sound t d a k

    -- after a round that moved refs the nodes are up
    still_up : (s t : SharedNode) (c d : CloneNode) (n left : ℕ) → RoundEnds fmt s.repository c.repository (Did (Moved n left)) t d → AreUp t d
    still_up s t c d n left (moved m k is up now less caught) = up
    still_up s t c d n left (failed f is) = absurd (no_fault n left f is)

    -- each round is the machine's
    moves_of : (before : Option ℕ) (s t : SharedNode) (c d : CloneNode) (a : Answer) (n : ℕ) → AreReady fmt rules s c → AreUp s c → MayFetch fmt rules before s c a t d n → FetchMoves fmt rules before s c a t d n
    moves_of before s t c d a n h up (in_last k over) = in_last (ready_round s t c d a h k) over
    moves_of before s t c d a n h up (in_again {u = u} {e = e} {moved = more} m left k not fewer rest) =
        let r = ready_round s u c e (Did (Moved m left)) h k in
        let w = round_well fmt rules s u c e (Did (Moved m left)) can h up r in
        in_again m left r not fewer (moves_of (Some left) u t e d a more w.1 (still_up s u c e m left w.0) rest)

    -- What a fetch between nodes that are ready and up comes to.
    pub fetch_comes : (s t : SharedNode) (c d : CloneNode) (a : Answer) (n : ℕ) → AreReady fmt rules s c → AreUp s c → MayFetch fmt rules None s c a t d n
        → Fetches fmt rules None s c a t d × FetchMoves fmt rules None s c a t d n × FetchEnds s.repository a d × AreReady fmt rules t d × (t.repository ≡ s.repository)
    fetch_comes s t c d a n h up k =
        let m = moves_of None s t c d a n h up k in
        let r = fetch_of None s t c d a n m in
        let w = fetch_ends fmt rules s t c d a can h up r in (r, m, w.0, w.1, w.2)
