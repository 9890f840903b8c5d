-- A sound repository stays sound under good effects, whole or cut.
use Rattle.std.proofs.Common.{◌≡◌, ◌≢◌, ℕ, zero, suc, List, [], ◌∷◌, Option, Some, None, ◌⊎◌, inl, inr, refl, sym, ap, ◌∙◌, subst, take}
use mathlib.Core.Path.{fun_ext}
use Rattle.std.specs.FinMap.{get, insert}
use Rattle.std.specs.Option.{option_or}
use Rattle.std.specs.List.{AllByRecursion}
use Rattle.std.specs.Cmp.Lexicographic.{nat_list_cmp_total}
use Rattle.vc_model.specs.Object.{Id, Object, Format, Objects, Lookup, IsNamed, stored, over}
use Rattle.vc_model.specs.Reach.{Reaches, Links, IsClosed, HasHistory}
use Rattle.vc_model.specs.Refs.{RefName, Refs, with_refs}
use Rattle.vc_model.specs.Refs.Head.{OnBranch, Detached}
use Rattle.vc_model.specs.Repository.{Repository, Entry, gitlink, Change, changed, changed_all, with_objects, Effect, AllAdded, SomeAdded, Done, StopsWithin, IsBranchName, IsGoodValue, IsSound, IsRoot, PartlyPruned}
use Rattle.vc_model.specs.Repository.Change.{SetRefs, RemoveRef, SetHead, SetIndex}
use Rattle.vc_model.proofs.Maps.{insert_cases, remove_cases, bytes_same}
use Rattle.vc_model.proofs.Reaching.{Extends, closed_grows, history_grows, closed_kept, history_kept}

pub value_grows : (fmt : Format) (f g : Lookup) (n : RefName) (x : Id) → Extends f g → IsGoodValue fmt f n x → IsGoodValue fmt g n x
value_grows fmt f g n x e v = record {
  name = v.name;
  closed = closed_grows fmt f g x e v.closed;
  kind = elim (v.kind) [ inl t ↦ inl t | inr h ↦ inr (h.0, history_grows fmt f g x e h.1) ];
}

pub value_kept : (fmt : Format) (f g : Lookup) (n : RefName) (x : Id) → ((z : Id) → Reaches (Links fmt f) x z → g z ≡ f z) → IsGoodValue fmt f n x → IsGoodValue fmt g n x
value_kept fmt f g n x e v = record {
  name = v.name;
  closed = closed_kept fmt f g x e v.closed;
  kind = elim (v.kind) [ inl t ↦ inl t | inr h ↦ inr (h.0, history_kept fmt f g x e h.1) ];
}

-- A change after which what was sound is sound.
abbrev pub GoodChange : Format → Lookup → Change → Type 0
GoodChange fmt at (SetRefs rs) = AllByRecursion (λ r. IsGoodValue fmt at r.0 r.1) rs
GoodChange fmt at (RemoveRef n) = Unit {0}
GoodChange fmt at (SetHead (OnBranch n)) = IsBranchName fmt n
GoodChange fmt at (SetHead (Detached x)) = IsClosed fmt at x × HasHistory fmt at x
GoodChange fmt at (SetIndex i) = (p : List ℕ) (e : Entry) → get i p ≡ Some e → e.mode ≢ gitlink → IsClosed fmt at e.id

-- more objects under their own names
pub sound_grows : (fmt : Format) (r : Repository) (s : Objects) → IsSound fmt r → Extends (stored r.objects) (stored s) → IsNamed fmt s → IsSound fmt (with_objects r s)
sound_grows fmt r s h e n = record {
  objects = n;
  refs = λ m x p. value_grows fmt (stored r.objects) (stored s) m x e (h.refs m x p);
  on_branch = h.on_branch;
  head = λ x p. let o = h.head x p in (closed_grows fmt (stored r.objects) (stored s) x e o.0, history_grows fmt (stored r.objects) (stored s) x e o.1);
  index = λ p en is m. closed_grows fmt (stored r.objects) (stored s) en.id e (h.index p en is m);
}

good_refs : (fmt : Format) (at : Lookup) (rs : List (RefName × Id)) (refs : Refs)
    → ((n : RefName) (x : Id) → get refs n ≡ Some x → IsGoodValue fmt at n x) → AllByRecursion (λ r. IsGoodValue fmt at r.0 r.1) rs
    → (n : RefName) (x : Id) → get (with_refs rs refs) n ≡ Some x → IsGoodValue fmt at n x
good_refs fmt at [] refs old all n x h = old n x h
good_refs fmt at (r ∷ rs) refs old all n x h =
    good_refs fmt at rs (insert refs r.0 r.1)
    (λ m y p. elim (insert_cases nat_list_cmp_total bytes_same refs r.0 r.1 m y p) [
      | inl is ↦ subst (λ k. IsGoodValue fmt at k y) (sym is.0) (subst (λ z. IsGoodValue fmt at r.0 z) (sym is.1) all.0)
      | inr was ↦ old m y was
    ])
    all.1 n x h

pub sound_changed : (fmt : Format) (r : Repository) (c : Change) → IsSound fmt r → GoodChange fmt (stored r.objects) c → IsSound fmt (changed c r)
sound_changed fmt r (SetRefs rs) h g = record {
  objects = h.objects;
  refs = good_refs fmt (stored r.objects) rs r.refs h.refs g;
  on_branch = h.on_branch;
  head = h.head;
  index = h.index;
}
sound_changed fmt r (RemoveRef n) h g = record {
  objects = h.objects;
  refs = λ m x p. h.refs m x (remove_cases nat_list_cmp_total bytes_same r.refs n m x p).1;
  on_branch = h.on_branch;
  head = h.head;
  index = h.index;
}
sound_changed fmt r (SetHead (OnBranch n)) h g = record {
  objects = h.objects;
  refs = h.refs;
  on_branch = λ m e. let same : n ≡ m = cc in subst (IsBranchName fmt) same g;
  head = λ x e. absurd (cc);
  index = h.index;
}
sound_changed fmt r (SetHead (Detached y)) h g = record {
  objects = h.objects;
  refs = h.refs;
  on_branch = λ m e. absurd (cc);
  head = λ x e. let same : y ≡ x = cc in subst (λ z. IsClosed fmt (stored r.objects) z × HasHistory fmt (stored r.objects) z) same g;
  index = h.index;
}
sound_changed fmt r (SetIndex i) h g = record {
  objects = h.objects;
  refs = h.refs;
  on_branch = h.on_branch;
  head = h.head;
  index = g;
}

-- a change leaves the objects
pub changed-objects : (c : Change) (r : Repository) → (changed c r).objects ≡ r.objects
changed-objects (SetRefs rs) r = refl
changed-objects (RemoveRef n) r = refl
changed-objects (SetHead h) r = refl
changed-objects (SetIndex i) r = refl

pub changed_all-objects : (cs : List Change) (r : Repository) → (changed_all cs r).objects ≡ r.objects
changed_all-objects [] r = refl
changed_all-objects (c ∷ cs) r = changed_all-objects cs (changed c r) ∙ changed-objects c r

pub sound_changed_all : (fmt : Format) (r : Repository) (cs : List Change) → IsSound fmt r → AllByRecursion (GoodChange fmt (stored r.objects)) cs → IsSound fmt (changed_all cs r)
sound_changed_all fmt r [] h g = h
sound_changed_all fmt r (c ∷ cs) h g =
    sound_changed_all fmt (changed c r) cs (sound_changed fmt r c h g.0) (subst (λ s. AllByRecursion (GoodChange fmt (stored s)) cs) (sym (changed-objects c r)) g.1)

-- An effect after which what was sound is sound, however far it went.
pub record GoodEffect (fmt : Format) (r : Repository) (e : Effect) : Type 0 where
  pub named : IsNamed fmt e.objects
  pub changes : AllByRecursion (GoodChange fmt (over r.objects e.objects)) e.changes

over_cases : (f g : Option Object) (o : Object) → option_or f g ≡ Some o → (f ≡ Some o) ⊎ ((f ≡ None) × (g ≡ Some o))
over_cases None g o h = inr (refl, h)
over_cases (Some p) g o h = inl h

pub named_over : (fmt : Format) (s c : Objects) (x : Id) (o : Object) → IsNamed fmt s → IsNamed fmt c → over s c x ≡ Some o → fmt.name_of o ≡ x
named_over fmt s c x o a b h = elim (over_cases (get s x) (get c x) o h) [ inl p ↦ a.named x o p | inr p ↦ b.named x o p.1 ]

pub over_extends : (s c : Objects) → Extends (stored s) (over s c)
over_extends s c = record { each = λ x o h. ap (λ z. option_or z (get c x)) h }

pub all_added_is : (s c after : Objects) → AllAdded s c after → stored after ≡ over s c
all_added_is s c after a = fun_ext (λ x. a.each x)

some_extends : (s c after : Objects) → SomeAdded s c after → Extends (stored s) (stored after)
some_extends s c after a = record { each = λ x o h. elim (a.each x) [ inl p ↦ p ∙ h | inr p ↦ p ∙ (over_extends s c).each x o h ] }

some_named : (fmt : Format) (s c after : Objects) → IsNamed fmt s → IsNamed fmt c → SomeAdded s c after → IsNamed fmt after
some_named fmt s c after m n a = record { named = λ x o h. elim (a.each x) [ inl p ↦ m.named x o (sym p ∙ h) | inr p ↦ named_over fmt s c x o m n (sym p ∙ h) ] }

pub all_is_some : (s c after : Objects) → AllAdded s c after → SomeAdded s c after
all_is_some s c after a = record { each = λ x. inr (a.each x) }

pub all_extends : (s c after : Objects) → AllAdded s c after → Extends (stored s) (stored after)
all_extends s c after a = some_extends s c after (all_is_some s c after a)

sound_some : (fmt : Format) (r : Repository) (c after : Objects) → IsSound fmt r → IsNamed fmt c → SomeAdded r.objects c after → IsSound fmt (with_objects r after)
sound_some fmt r c after h n a = sound_grows fmt r after h (some_extends r.objects c after a) (some_named fmt r.objects c after h.objects n a)

pub all_taken : {X : Type 0} (P : X → Type 0) (k : ℕ) (xs : List X) → AllByRecursion P xs → AllByRecursion P (take k xs)
all_taken P zero xs a = tt
all_taken P (suc k) [] a = tt
all_taken P (suc k) (x ∷ xs) a = (a.0, all_taken P k xs a.1)

sound_all : (fmt : Format) (r : Repository) (e : Effect) (s : Objects) (cs : List Change) → IsSound fmt r → IsNamed fmt e.objects → AllAdded r.objects e.objects s
    → AllByRecursion (GoodChange fmt (over r.objects e.objects)) cs → IsSound fmt (changed_all cs (with_objects r s))
sound_all fmt r e s cs h n a g =
    sound_changed_all fmt (with_objects r s) cs
    (sound_some fmt r e.objects s h n (all_is_some r.objects e.objects s a))
    (subst (λ at. AllByRecursion (GoodChange fmt at) cs) (sym (all_added_is r.objects e.objects s a)) g)

pub sound_done : (fmt : Format) (r new : Repository) (e : Effect) → IsSound fmt r → GoodEffect fmt r e → Done r e new → IsSound fmt new
sound_done fmt r new e h g d = subst (IsSound fmt) (sym d.2) (sound_all fmt r e d.0 e.changes h g.named d.1 g.changes)

pub sound_cut : (fmt : Format) (r new : Repository) (e : Effect) → IsSound fmt r → GoodEffect fmt r e → StopsWithin r e new → IsSound fmt new
sound_cut fmt r new e h g (inl d) = subst (IsSound fmt) (sym d.2) (sound_some fmt r e.objects d.0 h g.named d.1)
sound_cut fmt r new e h g (inr d) =
    subst (IsSound fmt) (sym d.3) (sound_all fmt r e d.0 (take d.1 e.changes) h g.named d.2 (all_taken (GoodChange fmt (over r.objects e.objects)) d.1 e.changes g.changes))

-- a prune that keeps what the roots reach
pub sound_pruned : (fmt : Format) (r : Repository) (s : Objects) (needed : Id → Type 0) → IsSound fmt r → PartlyPruned needed r.objects s
    → ((x y : Id) → IsRoot r x → Reaches (Links fmt (stored r.objects)) x y → needed y) → IsSound fmt (with_objects r s)
sound_pruned fmt r s needed h p keeps =
    let kept : (x : Id) → IsRoot r x → (z : Id) → Reaches (Links fmt (stored r.objects)) x z → get s z ≡ get r.objects z
    = λ x i z q. elim (p z) [ inl e ↦ e | inr e ↦ absurd (e.0 (keeps x z i q)) ] in
    record {
      objects = record { named = λ x o e. elim (p x) [ inl is ↦ h.objects.named x o (sym is ∙ e) | inr gone ↦ absurd (let n : get s x ≡ None = gone.1 in cc) ] };
      refs = λ n x e. value_kept fmt (stored r.objects) (stored s) n x (kept x (inl (n, e))) (h.refs n x e);
      on_branch = h.on_branch;
      head = λ x e. let o = h.head x e in
          (closed_kept fmt (stored r.objects) (stored s) x (kept x (inr (inl e))) o.0, history_kept fmt (stored r.objects) (stored s) x (kept x (inr (inl e))) o.1);
      index = λ q en is m. closed_kept fmt (stored r.objects) (stored s) en.id (kept en.id (inr (inr (q, en, is, m, refl)))) (h.index q en is m);
    }
