-- What a clone does has a good effect.
use Rattle.std.proofs.Common.{◌≡◌, ℕ, ◌<◌, List, [], ◌∷◌, Option, Some, None, inl, inr, refl, sym, ap, ◌∙◌, subst, arith, nat_cmp, Contains, IsTrue, length, ◌++◌, option_to_list, unwrap_or}
use Rattle.std.specs.FinMap.{get, insert, remove, empty, entries}
use Rattle.std.specs.Option.{option_or}
use Rattle.std.specs.List.{AllByRecursion}
use Rattle.std.specs.Cmp.Lexicographic.{slice_cmp, nat_list_cmp_total}
use Rattle.vc_model.specs.Object.{Id, Object, blob, Format, Objects, Lookup, IsNamed, stored, over}
use Rattle.vc_model.specs.Reach.{Path, Links, IsClosed}
use Rattle.vc_model.specs.Refs.{RefName, Refs, Head}
use Rattle.vc_model.specs.Refs.Head.{OnBranch, Detached}
use Rattle.vc_model.specs.Repository.{Repository, Entry, Change, no_effect, only_changes, IsBranchName, IsGoodValue, IsSound}
use Rattle.vc_model.specs.Repository.Change.{SetRefs, RemoveRef, SetHead, SetIndex}
use Rattle.vc_model.specs.Message.{Message, IsNamedMessage}
use Rattle.vc_model.specs.Message.Message.{ListRefs, Advert, Want, Pack, Push, Report, Error}
use Rattle.vc_model.specs.Node.{Deed}
use Rattle.vc_model.specs.Shared.{head_value}
use Rattle.vc_model.specs.Clone.{Awaited, Task, Performs, Receives, Moves, MovesAny, MovesBranch, MovesToAdvert, IsNewCommit, only_object, with_object, head_to, IsGoodCommit, accepted_ids}
use Rattle.vc_model.specs.Clone.Task.{Write, Stage, Unstage, LoadTree, MakeCommit, SetBranch, DeleteBranch, MoveHead, StartFetch, StartPush}
use Rattle.vc_model.specs.Keeping.{Fits}
use Rattle.vc_model.proofs.Maps.{insert_cases, remove_cases, bytes_same, none_in_empty}
use Rattle.vc_model.proofs.Reaching.{Extends, closed_grows, history_grows, closed_below}
use Rattle.vc_model.proofs.Sound.{GoodChange, GoodEffect, value_grows, over_extends}

change_grows : (fmt : Format) (f g : Lookup) (c : Change) → Extends f g → GoodChange fmt f c → GoodChange fmt g c
change_grows fmt f g (SetRefs rs) e h = go rs h
  where
    go : (rs : List (RefName × Id)) → AllByRecursion (λ r. IsGoodValue fmt f r.0 r.1) rs → AllByRecursion (λ r. IsGoodValue fmt g r.0 r.1) rs
    go [] h = tt
    go (r ∷ rs) h = (value_grows fmt f g r.0 r.1 e h.0, go rs h.1)
change_grows fmt f g (RemoveRef n) e h = tt
change_grows fmt f g (SetHead (OnBranch n)) e h = h
change_grows fmt f g (SetHead (Detached x)) e h = (closed_grows fmt f g x e h.0, history_grows fmt f g x e h.1)
change_grows fmt f g (SetIndex i) e h = λ p en is m. closed_grows fmt f g en.id e (h p en is m)

changes_grow : (fmt : Format) (f g : Lookup) (cs : List Change) → Extends f g → AllByRecursion (GoodChange fmt f) cs → AllByRecursion (GoodChange fmt g) cs
changes_grow fmt f g [] e h = tt
changes_grow fmt f g (c ∷ cs) e h = (change_grows fmt f g c e h.0, changes_grow fmt f g cs e h.1)

pub named_empty : (fmt : Format) → IsNamed fmt empty
named_empty fmt = record { named = λ x o h. absurd (none_in_empty (slice_cmp nat_cmp) x o h) }

pub good_only : (fmt : Format) (r : Repository) (cs : List Change) → AllByRecursion (GoodChange fmt (stored r.objects)) cs → GoodEffect fmt r (only_changes cs)
good_only fmt r cs h = record { named = named_empty fmt; changes = changes_grow fmt (stored r.objects) (over r.objects empty) cs (over_extends r.objects empty) h }

pub good_none : (fmt : Format) (r : Repository) → GoodEffect fmt r no_effect
good_none fmt r = record { named = named_empty fmt; changes = tt }

named_only : (fmt : Format) (o : Object) → IsNamed fmt (only_object fmt o)
named_only fmt o = record {
  named = λ x p h. elim (insert_cases nat_list_cmp_total bytes_same empty (fmt.name_of o) o x p h) [
    | inl is ↦ ap fmt.name_of is.1 ∙ sym is.0
    | inr was ↦ absurd (none_in_empty (slice_cmp nat_cmp) x p was)
  ];
}

-- a blob is closed by itself
pub blob_closed : (fmt : Format) (at : Lookup) (o : Object) → fmt.links o ≡ [] → at (fmt.name_of o) ≡ Some o → IsClosed fmt at (fmt.name_of o)
blob_closed fmt at o none is = record { there = λ y p. go y p.0 p.1 }
  where
    go : (y : Id) (zs : List Id) → Path (Links fmt at) zs (fmt.name_of o) y → (q : Object) × (at y ≡ Some q)
    go y [] p = (o, ap at (sym p) ∙ is)
    go y (z ∷ zs) p =
        let same : p.0.object ≡ o = let f = p.0.found in cc in
        let no : Contains [] z = subst (λ (xs : List Id). Contains xs z) (ap fmt.links same ∙ none) p.0.link in
        absurd (let k : no.0 < length {A = Id} [] = no.1 in omega arith)

head_to_good : (fmt : Format) (at : Lookup) (h : Head) (x : Id) → ((n : RefName) → h ≡ OnBranch n → IsBranchName fmt n) → IsGoodCommit fmt at x → GoodChange fmt at (head_to h x)
head_to_good fmt at (OnBranch b) x i g = (record { name = (i b refl).1; closed = g.0; kind = inr (inl (i b refl).0, g.1) }, tt)
head_to_good fmt at (Detached y) x i g = g

-- an object that is put with others, under its name
pub with_object_named : (fmt : Format) (s : Objects) (x : Id) (o : Object) → IsNamed fmt s → x ≡ fmt.name_of o → IsNamed fmt (with_object s x o)
with_object_named fmt s x o named is = record {
  named = λ y p g. elim (insert_cases nat_list_cmp_total bytes_same s x (unwrap_or (get s x) o) y p g) [
    | inl put ↦ ap fmt.name_of put.1 ∙ (by (get s x) refl ∙ sym put.0)
    | inr was ↦ named.named y p was
  ];
}
  where
    by : (found : Option Object) → get s x ≡ found → fmt.name_of (unwrap_or found o) ≡ x
    by None e = sym is
    by (Some q) e = named.named x q e

named_commit : (fmt : Format) (r : Repository) (parents : List Id) (author committer message : List ℕ) (s : Objects) (x : Id) → IsNewCommit fmt r parents author committer message s x → IsNamed fmt s
named_commit fmt r parents author committer message s x c = subst (IsNamed fmt) (sym c.objects_are) (with_object_named fmt c.trees x c.commit c.trees_are.named c.name_is)

pub good_task : (fmt : Format) (r : Repository) (a : Awaited) (t : Task) (d : Deed Awaited) → IsSound fmt r → Fits fmt r t → Performs fmt r a t d → GoodEffect fmt r d.effect
good_task fmt r a (Write o) d h fits is = subst (λ (d : Deed Awaited). GoodEffect fmt r d.effect) (sym is) (record { named = named_only fmt o; changes = tt })
good_task fmt r a (Stage path m content) d h fits is =
    let o : Object = blob content in
    let s : Objects = only_object fmt o in
    let here : get s (fmt.name_of o) ≡ Some o = Rattle.vc_model.proofs.Maps.insert_same nat_list_cmp_total bytes_same empty (fmt.name_of o) o in
    let at_name : (b : Option Object) → get r.objects (fmt.name_of o) ≡ b → option_or b (get s (fmt.name_of o)) ≡ Some o
    = elim [ None ↦ λ e. here | Some p ↦ λ e. ap Some (sym (fits o p refl e)) ] in
    let closed : IsClosed fmt (over r.objects s) (fmt.name_of o)
    = blob_closed fmt (over r.objects s) o (fmt.blobs o refl) (at_name (get r.objects (fmt.name_of o)) refl) in
    subst (λ (d : Deed Awaited). GoodEffect fmt r d.effect) (sym is) (record {
      named = named_only fmt o;
      changes = (
        λ p e got not. elim (insert_cases nat_list_cmp_total bytes_same r.index path (record { mode = m; id = fmt.name_of o }) p e got) [
          | inl same ↦ subst (λ x. IsClosed fmt (over r.objects s) x) (sym (ap (λ (e : Entry). e.id) same.1)) closed
          | inr was ↦ closed_grows fmt (stored r.objects) (over r.objects s) e.id (over_extends r.objects s) (h.index p e was not)
        ],
        tt,
      );
    })
good_task fmt r a (Unstage path) d h fits is =
    subst (λ (d : Deed Awaited). GoodEffect fmt r d.effect) (sym is)
    (good_only fmt r (SetIndex (remove r.index path) ∷ []) (λ p e got not. h.index p e (remove_cases nat_list_cmp_total bytes_same r.index path p e got).1 not, tt))
good_task fmt r a (LoadTree x) d h fits is =
    subst (λ (d : Deed Awaited). GoodEffect fmt r d.effect) (sym is.3)
    (good_only fmt r (SetIndex is.0 ∷ []) (λ p e got not. closed_below fmt (stored r.objects) x e.id is.1 (is.2 p e got not), tt))
good_task fmt r a (MakeCommit extra author committer message) d h fits is =
    subst (λ (d : Deed Awaited). GoodEffect fmt r d.effect) (sym is.3)
    (record { named = named_commit fmt r (option_to_list (head_value r) ++ extra) author committer message is.0 is.1 is.2; changes = (head_to_good fmt (over r.objects is.0) r.head is.1 h.on_branch is.2.good, tt) })
good_task fmt r a (SetBranch n x) d h fits is =
    subst (λ (d : Deed Awaited). GoodEffect fmt r d.effect) (sym is.3)
    (good_only fmt r (SetRefs ((n, x) ∷ []) ∷ []) ((record { name = is.0.1; closed = is.2.0; kind = inr (inl is.0.0, is.2.1) }, tt), tt))
good_task fmt r a (DeleteBranch n) d h fits is =
    subst (λ (d : Deed Awaited). GoodEffect fmt r d.effect) (sym is.1) (good_only fmt r (RemoveRef n ∷ []) (tt, tt))
good_task fmt r a (MoveHead (OnBranch n)) d h fits is =
    subst (λ (d : Deed Awaited). GoodEffect fmt r d.effect) (sym is.1) (good_only fmt r (SetHead (OnBranch n) ∷ []) (is.0, tt))
good_task fmt r a (MoveHead (Detached x)) d h fits is =
    subst (λ (d : Deed Awaited). GoodEffect fmt r d.effect) (sym is.1) (good_only fmt r (SetHead (Detached x) ∷ []) (is.0, tt))
good_task fmt r a StartFetch d h fits is = subst (λ (d : Deed Awaited). GoodEffect fmt r d.effect) (sym is) (good_none fmt r)
good_task fmt r a (StartPush atomic items) d h fits is = subst (λ (d : Deed Awaited). GoodEffect fmt r d.effect) (sym is.4) (good_none fmt r)

-- refs that move get good values
moves_good : (fmt : Format) (at : Lookup) (may : Refs → RefName → Id → RefName → Type 0)
    → ((refs : Refs) (n : RefName) (x : Id) (t : RefName) → may refs n x t → IsGoodValue fmt at t x)
    → (refs : Refs) (rs : List (RefName × Id)) (cs : List Change) → Moves may refs rs cs → AllByRecursion (GoodChange fmt at) cs
moves_good fmt at may good refs [] cs m = subst (AllByRecursion (GoodChange fmt at)) (sym m) tt
moves_good fmt at may good refs (r ∷ rs) cs (inl m) =
    subst (AllByRecursion (GoodChange fmt at)) (sym m.3) ((good refs r.0 r.1 m.0 m.2, tt), moves_good fmt at may good (insert refs m.0 r.1) rs m.1 m.4)
moves_good fmt at may good refs (r ∷ rs) cs (inr m) = moves_good fmt at may good refs rs cs m.1

branch_good : (fmt : Format) (at : Lookup) (refs : Refs) (n : RefName) (x : Id) (t : RefName) → MovesBranch fmt at refs n x t → IsGoodValue fmt at t x
branch_good fmt at refs n x t m = record { name = fmt.legal_names t m.fits; closed = m.good.0; kind = inr (inr (m.name, m.tracking_is), m.good.1) }

any_good : (fmt : Format) (at : Lookup) (refs : Refs) (n : RefName) (x : Id) (t : RefName) → MovesAny fmt at refs n x t → IsGoodValue fmt at t x
any_good fmt at refs n x t (inl m) = branch_good fmt at refs n x t m
any_good fmt at refs n x t (inr m) = record { name = fmt.legal_names t (subst (λ (t : RefName). IsTrue (fmt.is_legal t)) (sym m.same) m.legal); closed = m.closed; kind = inl (m.name, m.same ∙ m.tag_is) }

pub advert_changes : (fmt : Format) (r : Repository) (at : Lookup) (refs : Refs) (s : Objects) (d : Deed Awaited) → (m : MovesToAdvert fmt r at refs s d) → AllByRecursion (GoodChange fmt at) m.changes
advert_changes fmt r at refs s d m = moves_good fmt at (MovesAny fmt at) (any_good fmt at) r.refs (entries refs) m.changes m.moves

pub good_message : (fmt : Format) (r : Repository) (a : Awaited) (m : Message) (d : Deed Awaited) → IsNamedMessage fmt m → Receives fmt r a m d → GoodEffect fmt r d.effect
good_message fmt r a (Advert head refs) d n is =
    elim (is.3) [
      | inl w ↦ subst (λ (d : Deed Awaited). GoodEffect fmt r d.effect) (sym w.1) (good_none fmt r)
      | inr w ↦ subst (λ (d : Deed Awaited). GoodEffect fmt r d.effect) (sym w.1.deed) (good_only fmt r w.1.changes (advert_changes fmt r (stored r.objects) refs empty d w.1))
    ]
good_message fmt r a (Pack ack s) d n is =
    subst (λ (d : Deed Awaited). GoodEffect fmt r d.effect) (sym is.4.deed) (record { named = n; changes = advert_changes fmt r (over r.objects s) is.1 s d is.4 })
good_message fmt r a (Report fault ts) d n is =
    subst (λ (d : Deed Awaited). GoodEffect fmt r d.effect) (sym is.2)
    (good_only fmt r is.0 (moves_good fmt (stored r.objects) (MovesBranch fmt (stored r.objects)) (branch_good fmt (stored r.objects)) r.refs (accepted_ids ts) is.0 is.1))
good_message fmt r a ListRefs d n is = absurd is
good_message fmt r a (Want wants haves) d n is = absurd is
good_message fmt r a (Push atomic fault cs s) d n is = absurd is
good_message fmt r a (Error text) d n is = absurd is
