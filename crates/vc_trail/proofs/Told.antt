-- Whatever a tracking ref of a clone is set to was told.
use Rattle.std.proofs.Common.{◌≡◌, inl, inr, List, [], ◌∷◌, Option, Some, None, Contains, ℕ, refl, sym, ap, ◌∙◌, subst, arith}
use Rattle.std.specs.FinMap.{get}
use Rattle.std.specs.List.{AllByRecursion}
use Rattle.std.proofs.lemmas.List.Elements.{Contains-append_right}
use Rattle.std.proofs.lemmas.Option.{same_Some}
use Rattle.vc_model.specs.Object.{Id, Format}
use Rattle.vc_model.specs.Refs.{RefName, Refs, tracking}
use Rattle.vc_model.specs.Repository.{Repository, IsSound}
use Rattle.vc_model.specs.Message.{Message}
use Rattle.vc_model.specs.Message.Message.{ListRefs, Advert, Want, Pack, Push, Report, Error}
use Rattle.vc_model.specs.Node.{Answer, Deed, Ends}
use Rattle.vc_model.specs.Node.Answer.{Did, Declined, Fault}
use Rattle.vc_model.specs.Clone.{Awaited, CloneNode, Task, accepted_ids}
use Rattle.vc_model.specs.Clone.Awaited.{Nothing, AnAdvert, APack}
use Rattle.vc_model.specs.Rules.{Rules}
use Rattle.vc_model.specs.CloneCall.{CloneAnswers, CloneCall, CloneObeys, Obeys}
use Rattle.vc_model.specs.CloneCall.CloneCall.{Command, Receive, Asks, Prune, Open}
use Rattle.vc_model.specs.CloneCall.CloneAnswers.{down, asked, refused, obeyed, pruned, opened, faulted}
use Rattle.vc_model.proofs.Tracking.{AwaitedTold, CloneTold, IsTold, MessageTold, RefsTold, RepositoryTracks, cut_tracks, done_tracks, message_told}
use Rattle.vc_trail.specs.Trail.{AreExchanged, IsExchanged, IsStart, IsTrail, Trail, Turn, clone_after}
use Rattle.vc_trail.specs.Laws.{SaysValue, TrailTracks, WasTold}
use Rattle.vc_trail.proofs.Steps.{start_cases}

abbrev Value : Type 0
Value = RefName × Id

-- what holds of all that a list contains holds along it
all_contained : (P : Value → Type 0) (xs : List Value) → ((x : Value) → Contains xs x → P x) → AllByRecursion P xs
all_contained P [] h = tt
all_contained P (x ∷ xs) h = (h x (0, omega arith, refl), all_contained P xs (λ y c. h y (Contains-append_right (x ∷ []) xs y c)))

same_awaited : (o : Option Awaited) (v w : Awaited) → o ≡ Some v → o ≡ Some w → v ≡ w
same_awaited o v w e f = same_Some v w (sym e ∙ f)

-- what a message says is told, if all that it says of values is
said : (told : List ℕ → Id → Type 0) (m : Message) → ((b : List ℕ) (x : Id) → SaysValue m b x → told b x) → MessageTold told m
said told (Advert head refs) h = record { each = λ b x g. h b x g }
said told (Report fault ts) h = all_contained (IsTold told) (accepted_ids ts) (λ r c b e. h b r.1 (r, c, e, refl))
said told ListRefs h = tt
said told (Want wants haves) h = tt
said told (Pack ack s) h = tt
said told (Push atomic fault cs s) h = tt
said told (Error text) h = tt

-- what is awaited is told, if all that may follow is
awaits : (told : List ℕ → Id → Type 0) (a : Awaited) → ((wants : List Id) (refs : Refs) → a ≡ APack wants refs → RefsTold told refs) → AwaitedTold told a
awaits told Nothing h = tt
awaits told AnAdvert h = tt
awaits told (APack wants refs) h = h wants refs refl

awaits_more : (p q : List ℕ → Id → Type 0) → ((b : List ℕ) (x : Id) → p b x → q b x) → (a : Awaited) → AwaitedTold p a → AwaitedTold q a
awaits_more p q to Nothing h = tt
awaits_more p q to AnAdvert h = tt
awaits_more p q to (APack wants refs) h = record { each = λ b x g. to b x (h.each b x g) }

-- What a clone stores and awaits was told.
record Knows (told : List ℕ → Id → Type 0) (c : CloneNode) : Type 0 where
  stores : RepositoryTracks told c.repository
  awaited : (w : Awaited) → c.live ≡ Some w → AwaitedTold told w

knows_more : (p q : List ℕ → Id → Type 0) → ((b : List ℕ) (x : Id) → p b x → q b x) → (c : CloneNode) → Knows p c → Knows q c
knows_more p q to c k = record {
  stores = record { refs = λ n x g b e. to b x (k.stores.refs n x g b e); head = k.stores.head };
  awaited = λ w up. awaits_more p q to w (k.awaited w up);
}

module _ (fmt : Format) (rules : Rules fmt) (start : CloneNode) where
  begins : IsSound fmt start.repository → Knows (WasTold start []) start
  begins sound = record {
    stores = record { refs = λ n x g b e. inl (ap (get start.repository.refs) (sym e) ∙ g); head = λ n on. (sound.on_branch n on).0 };
    awaited = λ w up. awaits (WasTold start []) w (λ wants refs is. record { each = λ b x g. inr (inl (wants, refs, up ∙ ap Some is, g)) });
  }

  more : (t : Turn) (ts : Trail) (b : List ℕ) (x : Id) → WasTold start ts b x → WasTold start (t ∷ ts) b x
  more t ts b x (inl is) = inl is
  more t ts b x (inr (inl is)) = inr (inl is)
  more t ts b x (inr (inr is)) = inr (inr (is.0, inr is.1, is.2))

  module _ (t : Turn) (ts : Trail) where
    abbrev Told : List ℕ → Id → Type 0
    Told = WasTold start (t ∷ ts)

    came : (m : Message) → t.call ≡ Receive m → MessageTold Told m
    came m is = said Told m (λ b x says. inr (inr (m, inl is, says)))

    starts : (r : Repository) (w : Awaited) (d : Deed Awaited) (task : Task) → AwaitedTold Told w → Obeys fmt rules r w task d → IsStart task → CloneTold Told d
    starts r w d task waits does is = start_cases (λ (task : Task). Obeys fmt rules r w task d → CloneTold Told d)
        (λ e. subst (CloneTold Told) (sym e) (record { changes = tt; left = tt }))
        (λ atomic items e. subst (CloneTold Told) (sym e.2.4) (record { changes = tt; left = waits })) task is does

    deed : (r : Repository) (w : Awaited) (e : CloneCall) (d : Deed Awaited) → t.call ≡ e → IsExchanged fmt e → AwaitedTold Told w → CloneObeys fmt rules r w e d → CloneTold Told d
    deed r w (Command task) d is ex waits does = starts r w d task waits does ex
    deed r w (Receive m) d is ex waits does = message_told Told fmt r w m d (came m is) waits does
    deed r w (Asks q) d is ex waits does = absurd does
    deed r w Prune d is ex waits does = absurd does
    deed r w Open d is ex waits does = absurd does

    same_repository : (old new : CloneNode) → Knows Told old → new.repository ≡ old.repository → ((w : Awaited) → new.live ≡ Some w → AwaitedTold Told w) → Knows Told new
    same_repository old new k is waits = record { stores = subst (RepositoryTracks Told) (sym is) k.stores; awaited = waits }

    same_node : (old new : CloneNode) → Knows Told old → new ≡ old → Knows Told new
    same_node old new k is = subst (Knows Told) (sym is) k

    off : (o : Option Awaited) (w : Awaited) → o ≡ None → o ≡ Some w → ⊥
    off o w e f = absurd (let g : ◌≡◌ {A = Option Awaited} None (Some w) = sym e ∙ f in cc)

    ends : (a : Answer) (old new : CloneNode) (d : Deed Awaited) → Knows Told old → CloneTold Told d → Ends a old d new → Knows Told new
    ends (Did y) old new d k told e = record {
      stores = done_tracks Told old.repository new.repository d.effect told.changes k.stores e.0;
      awaited = λ w up. subst (AwaitedTold Told) (same_awaited new.live d.left w e.1 up) told.left;
    }
    ends (Declined n) old new d k told e = absurd e
    ends (Fault f) old new d k told e = record {
      stores = cut_tracks Told old.repository new.repository d.effect told.changes k.stores e.0;
      awaited = λ w up. absurd (off new.live w e.1 up);
    }

    turn_knows : (old : CloneNode) → IsExchanged fmt t.call → Knows Told old → CloneAnswers fmt rules old t.call t.answer t.node t.sends → Knows Told t.node
    turn_knows old ex k s = elim s [
      | down off other answer same none ↦ same_node old t.node k same
      | asked w q up asks tells same none ↦ same_node old t.node k same
      | refused w n up why answer same none ↦ same_node old t.node k same
      | obeyed w d up does stops sent ↦ ends t.answer old t.node d k (deed old.repository w t.call d refl ex (k.awaited w up) does) stops
      | pruned w up asks stops none ↦ absurd (subst (IsExchanged fmt) asks ex)
      | opened asks stops none ↦ absurd (subst (IsExchanged fmt) asks ex)
      | faulted w f up other answer same none ↦ same_repository old t.node k (ap (λ (n : CloneNode). n.repository) same) (λ v on. absurd (off t.node.live v (ap (λ (n : CloneNode). n.live) same) on))
    ]

  knows : (ts : Trail) → IsSound fmt start.repository → IsTrail fmt rules start ts → AreExchanged fmt ts → Knows (WasTold start ts) (clone_after start ts)
  knows [] sound k a = begins sound
  knows (t ∷ ts) sound k a = turn_knows t ts (clone_after start ts) a.0 (knows_more (WasTold start ts) (WasTold start (t ∷ ts)) (more t ts) (clone_after start ts) (knows ts sound k.1 a.1)) k.0

pub tracks : (fmt : Format) (rules : Rules fmt) → TrailTracks fmt rules
tracks fmt rules start ts b x sound k a g = (knows fmt rules start ts sound k a).stores.refs (tracking b) x g b refl
