-- The items of a push.
use Rattle.std.proofs.Common.{◌≡◌, ◌≢◌, ◌<◌, ◌≤◌, ◌+◌, ℕ, zero, suc, Bool, List, ◌∷◌, ◌++◌, Option, Some, None, Result, Ok, Err, Vec, Global, map, take, get_or, length, option_map, inl, inr, refl, sym, ap, ◌∙◌, subst, arith, []}
use Rattle.std.proofs.lemmas.List.{take_more}
use Rattle.std.proofs.lemmas.List.Elements.{Contains-append_cases, Contains-get_or}
use Rattle.std.specs.Prelude.{Contains}
use Rattle.vc_events.proofs.RunLemmas.{take_whole}
use Rattle.vc_sending.specs.declared.item.PushItem.{PushItem}
use Rattle.vc_events.specs.Calls.{HasNoZero}
use Rattle.vc_events.specs.Events.{bytes_in, item_of}
use Rattle.vc_events.specs.declared.events.NamedItem.{NamedItem}
use Rattle.vc_sending.specs.Sending.{machine_item, machine_items}
use Rattle.vc_format.specs.Git.{bytes_of_id}
use Rattle.vc_model.specs.Clone.{CloneNode, IsItemId, PushItem as MachineItem}
use Rattle.vc_model.specs.Clone.Task.{StartPush}
use Rattle.vc_model.specs.CloneCall.{Refuses}
use Rattle.vc_model.specs.Object.{Id, stored, zero_id as zero_name}
use Rattle.vc_model.specs.Order.{AreItems, NamedItem as MachineNamed, with_first}
use Rattle.vc_model.specs.Reach.{IsClosed}
use Rattle.vc_model.specs.Refs.{RefName}
use Rattle.vc_model.specs.Repository.{IsSound, Repository}
use Rattle.vc_model.proofs.Commits.{contains_first}
use Rattle.vc_object.specs.declared.id.ObjectId.{ObjectId}
use Rattle.vc_push.specs.Push.{zero_id}
use Rattle.vc_values.proofs.GitLaws.{git_rules}
use Rattle.vc_rules.specs.Git.{git}
use Rattle.vc_simulation.specs.Values.{AreNotPushed, ArePushed, HasZero, IsItemFor, IsNoItem}

pub none_yet : (items : List PushItem) → ¬ HasZero (take 0 items)
none_yet items h = let below = h.1.1 in let f : ⊥ = omega (arith, below) in absurd f

pub still_none : (items : List PushItem) (k : ℕ) (item : PushItem) → k < length items → (get_or items k item).id ≢ Some zero_id → ¬ HasZero (take k items) → ¬ HasZero (take (k + 1) items)
still_none items k item below other none h =
    let last = get_or items k item in
    elim (Contains-append_cases (take k items) (last ∷ []) h.0 (subst (λ (xs : List PushItem). Contains xs h.0) (take_more items k item below) h.1)) [
      | inl before ↦ none (h.0, before, h.2)
      | inr is ↦ other (ap (λ (i : PushItem). i.id) (contains_first last h.0 is) ∙ h.2)
    ]

pub one_is_zero : (items : List PushItem) (k : ℕ) (item : PushItem) → k < length items → (get_or items k item).id ≡ Some zero_id → HasZero items
one_is_zero items k item below is = (get_or items k item, Contains-get_or items k item below, is)

pub none_whole : (items : List PushItem) (k : ℕ) → k ≡ length items → ¬ HasZero (take k items) → ¬ HasZero items
none_whole items k end none = subst (λ (xs : List PushItem). ¬ HasZero xs) (ap (λ (n : ℕ). take n items) end ∙ take_whole items) none

-- ---- named items

-- an item that a push has first, whatever follows it
abbrev IsHead : NamedItem → PushItem → Repository → Type 0
IsHead named item r = (w : Result (List MachineItem) ℕ) (rest : List MachineNamed) → AreItems git git_rules r rest w → AreItems git git_rules r (item_of named ∷ rest) (with_first (machine_item item) w)

head_for : (named : NamedItem) (item : PushItem) (r : Repository) → IsItemFor named item r → IsHead named item r
head_for named item r is w rest are = elim is.1 [
  | inl none ↦ inl (ap (λ (o : Option (Vec ℕ Global)). option_map bytes_in o) none.0, (w, are, ap (λ (m : MachineItem). with_first m w) (gone none.1)))
  | inr some ↦ inr (some.0.items, ap (λ (o : Option (Vec ℕ Global)). option_map bytes_in o) some.2, inr (bytes_of_id some.1, w, some.4, are, ap (λ (m : MachineItem). with_first m w) (there some.1 some.3)))
]
  where
    gone : item.id ≡ None → machine_item item ≡ record { id = None; name = named.name }
    gone none = ap (λ (o : Option ObjectId). record { id = option_map bytes_of_id o; name = item.name }) none ∙ ap (λ (n : RefName). record { id = None; name = n }) is.0

    there : (id : ObjectId) → item.id ≡ Some id → machine_item item ≡ record { id = Some (bytes_of_id id); name = named.name }
    there id some = ap (λ (o : Option ObjectId). record { id = option_map bytes_of_id o; name = item.name }) some ∙ ap (λ (n : RefName). record { id = Some (bytes_of_id id); name = n }) is.0

-- the first of the items of a push
first_out : (items : List PushItem) (m : MachineItem) (w : Result (List MachineItem) ℕ) → Ok (machine_items items) ≡ with_first m w → (i : PushItem) × (is : List PushItem) × (items ≡ i ∷ is) × (machine_item i ≡ m) × (w ≡ Ok (machine_items is))
first_out [] m (Ok xs) same = absurd (cc)
first_out [] m (Err k) same = absurd (cc)
first_out (i ∷ is) m (Ok xs) same = (i, is, refl, cc, cc)
first_out (i ∷ is) m (Err k) same = absurd (cc)

items_out : (named : NamedItem) (others : List NamedItem) (items : List PushItem) (r : Repository) → ArePushed (named ∷ others) items r → (i : PushItem) × (is : List PushItem) × (items ≡ i ∷ is) × ArePushed others is r × IsHead named i r
items_out named others items r are = elim are [
  | inl none ↦
      let f = first_out items (record { id = None; name = named.name }) none.1.0 none.1.2 in (
        f.0,
        f.1,
        f.2,
        subst (λ (w : Result (List MachineItem) ℕ). AreItems git git_rules r (map item_of others) w) f.4 none.1.1,
        λ w rest after. inl (none.0, (w, after, ap (λ (m : MachineItem). with_first m w) f.3)),
      )
  | inr some ↦ elim some.2 [
    | inl bad ↦ let e = bad.2 in absurd (cc)
    | inr good ↦
        let f = first_out items (record { id = Some good.0; name = named.name }) good.1 good.4 in (
          f.0,
          f.1,
          f.2,
          subst (λ (w : Result (List MachineItem) ℕ). AreItems git git_rules r (map item_of others) w) f.4 good.3,
          λ w rest after. inr (some.0, some.1, inr (good.0, w, good.2, after, ap (λ (m : MachineItem). with_first m w) f.3)),
        )
  ]
]

pub items_behind : (r : Repository) (named : List NamedItem) (last : NamedItem) (items : List PushItem) (item : PushItem) → ArePushed named items r → IsItemFor last item r → ArePushed (named ++ last ∷ []) (items ++ item ∷ []) r
items_behind r [] last [] item are is = head_for last item r is (Ok []) [] refl
items_behind r [] last (i ∷ items) item are is = absurd (cc)
items_behind r (n ∷ named) last items item are is =
    let o = items_out n named items r are in
    subst (λ (items : List PushItem). ArePushed (n ∷ (named ++ last ∷ [])) (items ++ item ∷ []) r) (sym o.2)
    (o.4 (Ok (machine_items (o.1 ++ item ∷ []))) (map item_of (named ++ last ∷ [])) (items_behind r named last o.1 item o.3 is))

pub items_refused : (r : Repository) (named : List NamedItem) (last : NamedItem) (rest : List NamedItem) (items : List PushItem) (k : ℕ) → ArePushed named items r → IsNoItem last r k → AreNotPushed (named ++ last ∷ rest) r k
items_refused r [] last rest items k are is = inr (is.0.items, ap (λ (o : Option (Vec ℕ Global)). option_map bytes_in o) is.1, inl (k, is.2, refl))
items_refused r (n ∷ named) last rest items k are is =
    let o = items_out n named items r are in
    o.4 (Err k) (map item_of (named ++ last ∷ rest)) (items_refused r named last rest o.1 k o.3 is)

-- ---- what is pushed has no zero id

contains_machine : (items : List PushItem) (m : MachineItem) → Contains (machine_items items) m → (i : PushItem) × Contains items i × (machine_item i ≡ m)
contains_machine [] m h = let below = h.1 in let f : ⊥ = omega (arith, below) in absurd f
contains_machine (i ∷ items) m (zero, below, is) = (i, (zero, omega (arith), refl), is)
contains_machine (i ∷ items) m (suc k, below, is) =
    let rest = contains_machine items m (k, omega (arith, below), is) in
    let at = rest.1 in
    (rest.0, (suc at.0, (let b = at.1 in omega (arith, b)), at.2), rest.2)

id_item : (o : Option ObjectId) → option_map bytes_of_id o ≡ Some zero_name → o ≡ Some zero_id
id_item None is = absurd (cc)
id_item (Some x) is = let e : bytes_of_id x ≡ zero_name = cc in ap (λ (b : Id). Some (record { 0 = b })) e

pub no_zero_pushed : (items : List PushItem) → ¬ HasZero items → ¬ IsItemId (machine_items items) zero_name
no_zero_pushed items none h =
    let i = contains_machine items h.0 h.1 in
    none (i.0, i.1, id_item i.0.id (ap (λ (m : MachineItem). m.id) i.2 ∙ h.2))

machine_contains : (items : List PushItem) (i : PushItem) → Contains items i → Contains (machine_items items) (machine_item i)
machine_contains [] i h = let below = h.1 in let f : ⊥ = omega (arith, below) in absurd f
machine_contains (x ∷ items) i (zero, below, is) = (zero, omega (arith), ap machine_item is)
machine_contains (x ∷ items) i (suc k, below, is) = let rest = machine_contains items i (k, omega (arith, below), is) in (suc rest.0, (let b = rest.1 in omega (arith, b)), rest.2)

pub zero_pushed : (items : List PushItem) → HasZero items → IsItemId (machine_items items) zero_name
zero_pushed items h = (machine_item h.0, machine_contains items h.0 h.1, ap (λ (o : Option ObjectId). option_map bytes_of_id o) h.2)

machine_length : (items : List PushItem) → length (machine_items items) ≡ length items
machine_length [] = refl
machine_length (i ∷ items) = ap (λ n. suc n) (machine_length items)

-- such a push is refused by the machine, too
pub zero_refused : (n : CloneNode) (atomic : Bool) (items : List PushItem) → IsSound git n.repository → HasNoZero n.repository → HasZero items
    → ((256 < length items) → Refuses git git_rules n.repository (StartPush atomic (machine_items items)) 84) × ((length items ≤ 256) → Refuses git git_rules n.repository (StartPush atomic (machine_items items)) 40)
zero_refused n atomic items sound zeros has = (
  (λ many. inl ((λ few. let count = machine_length items in let f : ⊥ = omega (arith, many, few, count) in absurd f), refl)),
  (λ few. inr ((let count = machine_length items in omega (arith, few, count)), inl ((λ closed. not_closed (closed zero_name (zero_pushed items has))), refl))),
)
  where
    not_closed : IsClosed git (stored n.repository.objects) zero_name → ⊥
    not_closed closed = let o = closed.there zero_name ([], refl) in zeros o.0 (zero_name, o.1) (sound.objects.named zero_name o.0 o.1)
