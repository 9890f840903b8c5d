-- Only the two objects occur in the run, so none collide.
use Rattle.std.proofs.Common.{◌≡◌, ℕ, List, [], ◌∷◌, ◌++◌, Option, Some, None, inl, inr, refl, sym, ap, ◌∙◌, subst, nat_cmp, slice_get, option_to_list, option_map}
use Rattle.std.specs.FinMap.{get, insert, remove, empty, nat_cmp-IsAntisymmetric}
use Rattle.std.specs.Cmp.{nat_cmp_total}
use Rattle.vc_model.specs.Object.{Id, Object, Format, Objects}
use Rattle.vc_model.specs.Message.{Message, Envelope, Carries, message_of}
use Rattle.vc_model.specs.Message.Envelope.{ToShared, ToClone}
use Rattle.vc_model.specs.Push.{OpenPush, Slots}
use Rattle.vc_model.specs.Node.{Answer}
use Rattle.vc_model.specs.Shared.{SharedNode}
use Rattle.vc_model.specs.Clone.{CloneNode}
use Rattle.vc_model.specs.Wire.{Wire}
use Rattle.vc_model.specs.World.{World, after_shared, after_clone}
use Rattle.vc_model.specs.Run.{OccursIn}
use Rattle.vc_model.specs.Run.OccursIn.{in_shared, in_push, in_clone, in_message}
use Rattle.vc_model.specs.ExactWorld.{FusedWorld, ExactHistory, fused_after, BringsExactly, OccursExactly}
use Rattle.vc_model.proofs.Maps.{insert_cases, remove_cases, none_in_empty, slice_get-more, slice_get-option}

module _ (Only : Object → Type 0) where
  abbrev pub AllOnly : Objects → Type 0
  AllOnly s = (y : Id) (o : Object) → get s y ≡ Some o → Only o

  abbrev pub SlotsOnly : Slots → Type 0
  SlotsOnly slots = (k : ℕ) (p : OpenPush) → get slots k ≡ Some p → AllOnly p.carried

  abbrev pub SentOnly : Option Message → Type 0
  SentOnly sends = (m : Message) → sends ≡ Some m → (o : Object) → Carries m o → Only o

  -- the node has these objects alone, in its store and in what is open there
  pub record SharedOnly (n : SharedNode) : Type 0 where
    pub stored : AllOnly n.repository.objects
    pub pushes : (slots : Slots) → n.live ≡ Some slots → SlotsOnly slots

  -- all that is anywhere in the world is one of these objects
  pub record WorldOnly (w : World) : Type 0 where
    pub shared : SharedOnly w.shared
    pub clones : (c : ℕ) (n : CloneNode) → get w.clones c ≡ Some n → AllOnly n.repository.objects
    pub sent : (k : ℕ) (e : Envelope) → slice_get w.sent k ≡ Some e → (o : Object) → Carries (message_of e) o → Only o

  pub occurs_only : (w : World) → WorldOnly w → (o : Object) → OccursIn w o → Only o
  occurs_only w h o (in_shared has) = h.shared.stored has.0 o has.1
  occurs_only w h o (in_push slots s p live g has) = h.shared.pushes slots live s p g has.0 o has.1
  occurs_only w h o (in_clone c n g has) = h.clones c n g has.0 o has.1
  occurs_only w h o (in_message k e g c) = h.sent k e g o c

  -- ---- one event

  sent_more : (old : List Envelope) (sends : Option Message) (seal : Message → Envelope) → ((m : Message) → message_of (seal m) ≡ m) →
      ((k : ℕ) (e : Envelope) → slice_get old k ≡ Some e → (o : Object) → Carries (message_of e) o → Only o) → SentOnly sends →
      (k : ℕ) (e : Envelope) → slice_get (old ++ option_to_list (option_map seal sends)) k ≡ Some e → (o : Object) → Carries (message_of e) o → Only o
  sent_more old sends seal opens was new k e g o c = elim (slice_get-more old (option_to_list (option_map seal sends)) k e g) [
    | inl h ↦ was k e h o c
    | inr h ↦ last sends new (slice_get-option (option_map seal sends) h.0 e h.1)
  ]
    where
      last : (s : Option Message) → SentOnly s → option_map seal s ≡ Some e → Only o
      last None new is = absurd (cc)
      last (Some m) new is =
          let same : seal m ≡ e = cc in
          new m refl o (subst (λ q. Carries q o) (ap message_of (sym same) ∙ opens m) c)

  pub clone_only : (w : World) (c : ℕ) (n : CloneNode) (sends : Option Message) → WorldOnly w → AllOnly n.repository.objects → SentOnly sends → WorldOnly (after_clone w c n sends)
  clone_only w c n sends h stored new = record {
    shared = h.shared;
    clones = λ d m g. elim (insert_cases nat_cmp_total nat_cmp-IsAntisymmetric w.clones c n d m g) [ inl is ↦ subst (λ (m : CloneNode). AllOnly m.repository.objects) (sym is.1) stored | inr was ↦ h.clones d m was ];
    sent = sent_more w.sent sends (ToShared c) (λ m. refl) h.sent new;
  }

  pub shared_only : (w : World) (c : ℕ) (a : Answer) (n : SharedNode) (sends : Option Message) → WorldOnly w → SharedOnly n → SentOnly sends → WorldOnly (after_shared w c a n sends)
  shared_only w c a n sends h shared new = record { shared = shared; clones = h.clones; sent = sent_more w.sent sends (ToClone c) (λ m. refl) h.sent new }

  -- ---- slots

  pub none_open : SlotsOnly empty
  none_open k p g = absurd (none_in_empty nat_cmp k p g)

  pub one_open : (slots : Slots) (s : ℕ) (q : OpenPush) → SlotsOnly slots → AllOnly q.carried → SlotsOnly (insert slots s q)
  one_open slots s q h c k p g = elim (insert_cases nat_cmp_total nat_cmp-IsAntisymmetric slots s q k p g) [ inl is ↦ subst (λ (p : OpenPush). AllOnly p.carried) (sym is.1) c | inr was ↦ h k p was ]

  pub less_open : (slots : Slots) (s : ℕ) → SlotsOnly slots → SlotsOnly (remove slots s)
  less_open slots s h k p g = h k p (remove_cases nat_cmp_total nat_cmp-IsAntisymmetric slots s k p g).1

  pub is_open : (slots : Slots) → SlotsOnly slots → (l : Slots) → Some slots ≡ Some l → SlotsOnly l
  is_open slots h l e = let same : slots ≡ l = cc in subst SlotsOnly same h

  pub sends_nothing : SentOnly None
  sends_nothing m e = absurd (cc)

  pub sends_one : (q : Message) → ((o : Object) → Carries q o → Only o) → SentOnly (Some q)
  sends_one q h m e o c = let same : q ≡ m = cc in h o (subst (λ z. Carries z o) (sym same) c)

  -- ---- a run

  module _ (fmt : Format) (wire : Wire fmt) (start : FusedWorld) where
    -- each moment's world has these objects alone, and its event brings no other
    abbrev pub EachOnly : ExactHistory → Type 0
    EachOnly [] = WorldOnly start.world
    EachOnly (m ∷ h) = WorldOnly m.world.world × ((o : Object) → BringsExactly fmt wire (fused_after start h) m.event o → Only o) × EachOnly h

    pub each_only : (h : ExactHistory) → EachOnly h → (o : Object) → OccursExactly fmt wire start h o → Only o
    each_only [] e o i = occurs_only start.world e o i
    each_only (m ∷ h) e o (inl i) = occurs_only m.world.world e.0 o i
    each_only (m ∷ h) e o (inr (inl i)) = e.1 o i
    each_only (m ∷ h) e o (inr (inr i)) = each_only h e.2 o i
