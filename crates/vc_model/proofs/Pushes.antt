-- Open pushes: what a checked command still meets, and that its update is good and goes forward.
use Rattle.std.proofs.Common.{◌≡◌, ◌≢◌, ℕ, Bool, true, false, List, ◌∷◌, ◌++◌, map, Option, Some, None, is_none, ◌⊎◌, inl, inr, refl, sym, ap, ◌∙◌, subst, arith, Contains, if◌then◌else◌, []}
use Rattle.std.specs.FinMap.{get, insert}
use Rattle.std.specs.Option.{option_or}
use Rattle.std.specs.List.{AllByRecursion, list_any, list_all}
use Rattle.std.specs.Cmp.Lexicographic.{nat_list_cmp_total}
use Rattle.std.proofs.lemmas.List.Elements.{Contains-append_right}
use Rattle.vc_lemmas.proofs.Lists.{all_append, all_map}
use Rattle.vc_model.specs.Object.{Id, zero_id, Object, Format, Objects, Lookup, stored, over}
use Rattle.vc_model.specs.Reach.{Reaches, Links, IsAncestor}
use Rattle.vc_model.specs.Refs.{RefName, Refs, IsBranch, IsCurrent, branch, with_refs}
use Rattle.vc_model.specs.Repository.{Repository, Change, IsGoodValue, IsSharedName, PartlyPruned}
use Rattle.vc_model.specs.Repository.Change.{SetRefs}
use Rattle.vc_model.specs.Push.{Command, Judged, Verdict, Reason, Stage, OpenPush, Slots, is_passing, Checks, ChecksAll, ChecksPush, Updates, UpdatesAll, JudgesInTurn, failed_with_others, accepted, refused_by, new_value}
use Rattle.vc_model.specs.Push.Verdict.{Passing, Accepted, Refused}
use Rattle.vc_model.specs.Push.Reason.{AtomicFailure}
use Rattle.vc_model.specs.Push.Stage.{Unpacked, Checked, Migrated, Finished}
use Rattle.vc_model.specs.Shared.{UpdatesNext, IsNeeded}
use Rattle.vc_model.specs.Shared.IsNeeded.{by_push}
use Rattle.vc_model.specs.Keeping.{CommandsOk, JudgedOk, PassingOk, PushOk, StageOk}
use Rattle.vc_model.proofs.Maps.{insert_same, insert_other, same_key, bytes_same}
use Rattle.vc_model.proofs.Reaching.{Extends, reaches-steps}
use Rattle.vc_model.proofs.Sound.{GoodChange, value_grows, value_kept, over_extends}

-- ---- lists

all_within : {X : Type 0} (P Q : X → Type 0) (xs : List X) → ((x : X) → Contains xs x → P x → Q x) → AllByRecursion P xs → AllByRecursion Q xs
all_within P Q [] f h = tt
all_within P Q (x ∷ xs) f h = (f x (0, omega arith, refl) h.0, all_within P Q xs (λ y c. f y (Contains-append_right (x ∷ []) xs y c)) h.1)

pub all_front : {X : Type 0} (P : X → Type 0) (xs ys : List X) → AllByRecursion P (xs ++ ys) → AllByRecursion P xs
all_front P [] ys h = tt
all_front P (x ∷ xs) ys h = (h.0, all_front P xs ys h.1)

pub all_back : {X : Type 0} (P : X → Type 0) (xs ys : List X) → AllByRecursion P (xs ++ ys) → AllByRecursion P ys
all_back P [] ys h = h
all_back P (x ∷ xs) ys h = all_back P xs ys h.1

-- ---- the check

check_one : (fmt : Format) (at : Lookup) (anc : Id → Id → Type 0) → ((a b : Id) → IsAncestor fmt at a b → anc a b)
    → (c : Command) (v w : Verdict) → Checks fmt at c v w → w ≡ Passing → JudgedOk fmt at anc c
check_one fmt at anc to c Passing Passing h e = record {
  value = record { name = fmt.legal_names c.name h.0; closed = h.1.1.1.0; kind = elim (h.1.0) [ inl b ↦ inr (inl b, h.1.1.1.1.0 b) | inr t ↦ inl t ] };
  place = (h.1.0, h.0);
  forward = λ b. elim (h.1.1.1.1.1.0 b) [ inl z ↦ inl z | inr a ↦ inr (to c.old c.new a) ];
}
check_one fmt at anc to c Passing Accepted h e = absurd h
check_one fmt at anc to c Passing (Refused r) h e = absurd (apart e)
  where
    apart : Refused r ≡ Passing → ⊥
    apart e = absurd (cc)
check_one fmt at anc to c Accepted w h e = absurd (apart (sym h ∙ e))
  where
    apart : Accepted ≡ Passing → ⊥
    apart e = absurd (cc)
check_one fmt at anc to c (Refused r) w h e = absurd (apart (sym h ∙ e))
  where
    apart : Refused r ≡ Passing → ⊥
    apart e = absurd (cc)

check_all : (fmt : Format) (at : Lookup) (anc : Id → Id → Type 0) → ((a b : Id) → IsAncestor fmt at a b → anc a b)
    → (js ks : List Judged) → ChecksAll fmt at js ks → AllByRecursion (PassingOk fmt at anc) ks
check_all fmt at anc to [] [] h = tt
check_all fmt at anc to (j ∷ js) (k ∷ ks) h =
    (λ e. subst (JudgedOk fmt at anc) (sym h.0) (check_one fmt at anc to j.command j.verdict k.verdict h.1 e), check_all fmt at anc to js ks h.2)
check_all fmt at anc to [] (k ∷ ks) h = absurd h
check_all fmt at anc to (j ∷ js) [] h = absurd h

none_passes : (v : Verdict) → (if (elim v [ Passing ↦ true | Accepted ↦ false | Refused r ↦ false ]) then Refused AtomicFailure else v) ≡ Passing → ⊥
none_passes Passing e = absurd (cc)
none_passes Accepted e = absurd (cc)
none_passes (Refused r) e = absurd (cc)

not_passing : (j : Judged) → (j.verdict ≢ Passing) → is_passing j ≡ false
not_passing j n = go j.verdict n
  where
    go : (v : Verdict) → v ≢ Passing → (elim v [ Passing ↦ true | Accepted ↦ false | Refused r ↦ false ]) ≡ false
    go Passing n = absurd (n refl)
    go Accepted n = refl
    go (Refused r) n = refl

pub is_passing_is : (j : Judged) → is_passing j ≡ true → j.verdict ≡ Passing
is_passing_is j h = go j.verdict h
  where
    go : (v : Verdict) → (elim v [ Passing ↦ true | Accepted ↦ false | Refused r ↦ false ]) ≡ true → v ≡ Passing
    go Passing h = refl
    go Accepted h = cc
    go (Refused r) h = cc

abbrev AllOver : List Judged → Type 0
AllOver js = AllByRecursion (λ (j : Judged). j.verdict ≢ Passing) js

over_any : (js : List Judged) → AllOver js → list_any is_passing js ≡ false
over_any [] h = refl
over_any (j ∷ js) h = rw (not_passing j h.0) (over_any js h.1)

failed_over : (js : List Judged) → AllOver (map failed_with_others js)
failed_over [] = tt
failed_over (j ∷ js) = (none_passes j.verdict, failed_over js)

accepted_over : (js : List Judged) → AllOver (map accepted js)
accepted_over [] = tt
accepted_over (j ∷ js) = (λ e. absurd (cc), accepted_over js)

refused_over : (js : List Judged) (rs : List (Option Reason)) → AllOver (refused_by js rs)
refused_over [] rs = tt
refused_over (j ∷ js) [] = tt
refused_over (j ∷ js) (Some r ∷ rs) = (λ e. absurd (cc), refused_over js rs)
refused_over (j ∷ js) (None ∷ rs) = (λ e. absurd (cc), refused_over js rs)

-- where some command still passes after the check, all that pass are good
pub check_push : (fmt : Format) (at : Lookup) (anc : Id → Id → Type 0) → ((a b : Id) → IsAncestor fmt at a b → anc a b)
    → (atomic : Bool) (js ks : List Judged) → ChecksPush fmt at atomic js ks → list_any is_passing ks ≡ true → CommandsOk fmt at anc atomic ks
check_push fmt at anc to false js ks h some = record { each = check_all fmt at anc to js ks h; together = λ e. absurd (cc) }
check_push fmt at anc to true js ks h some = go (list_all is_passing h.0) refl
  where
    go : (b : Bool) → list_all is_passing h.0 ≡ b → CommandsOk fmt at anc true ks
    go true e =
        let same : ks ≡ h.0 = h.2 ∙ ap (λ (b : Bool). if b then h.0 else map failed_with_others h.0) e in
        record { each = subst (AllByRecursion (PassingOk fmt at anc)) (sym same) (check_all fmt at anc to js h.0 h.1); together = λ _. ap (list_all is_passing) same ∙ e }
    go false e =
        let same : ks ≡ map failed_with_others h.0 = h.2 ∙ ap (λ (b : Bool). if b then h.0 else map failed_with_others h.0) e in
        let none : list_any is_passing ks ≡ false = ap (list_any is_passing) same ∙ over_any (map failed_with_others h.0) (failed_over h.0) in
        absurd (cc)

-- ---- the update

-- The branches that had a value have one that it is an ancestor of.
abbrev pub Descends : (Id → Id → Type 0) → Refs → Refs → Type 0
Descends anc old new = (b : List ℕ) (x : Id) → get old (branch b) ≡ Some x → (y : Id) × (get new (branch b) ≡ Some y) × anc x y

-- Refs change not at all, or by one change that goes forward.
pub data Forward (fmt : Format) (anc : Id → Id → Type 0) (refs : Refs) (cs : List Change) : Type 0 where
  stays : cs ≡ [] → Forward fmt anc refs cs
  sets : (rs : List (RefName × Id)) → cs ≡ SetRefs rs ∷ [] → Descends anc refs (with_refs rs refs) → AllByRecursion (λ r. IsSharedName fmt r.0) rs → Forward fmt anc refs cs

module _ (anc : Id → Id → Type 0) (self : (a : Id) → anc a a) (trans : (a b c : Id) → anc a b → anc b c → anc a c) where
  pub descends_same : (refs : Refs) → Descends anc refs refs
  descends_same refs b x h = (x, h, self x)

  pub descends_trans : (p q r : Refs) → Descends anc p q → Descends anc q r → Descends anc p r
  descends_trans p q r h k b x e = let y = h b x e in let z = k b y.0 y.1 in (z.0, z.1, trans x y.0 z.0 y.2 z.2)

  one_set : (refs : Refs) (c : Command) → IsCurrent refs c.name c.old → (IsBranch c.name → (c.old ≡ zero_id) ⊎ anc c.old c.new) → Descends anc refs (insert refs c.name c.new)
  one_set refs c (inl none) forward b x h = go (same_key nat_list_cmp_total bytes_same (branch b) c.name)
    where
      go : ((branch b) ≡ c.name) ⊎ ((branch b) ≢ c.name) → (y : Id) × (get (insert refs c.name c.new) (branch b) ≡ Some y) × anc x y
      go (inl e) = absurd (let w : get refs c.name ≡ Some x = ap (get refs) (sym e) ∙ h in let n = none.1 in cc)
      go (inr e) = (x, insert_other nat_list_cmp_total bytes_same refs c.name c.new (branch b) e ∙ h, self x)
  one_set refs c (inr some) forward b x h = go (same_key nat_list_cmp_total bytes_same (branch b) c.name)
    where
      go : ((branch b) ≡ c.name) ⊎ ((branch b) ≢ c.name) → (y : Id) × (get (insert refs c.name c.new) (branch b) ≡ Some y) × anc x y
      go (inl e) =
          let w : get refs c.name ≡ Some x = ap (get refs) (sym e) ∙ h in
          let s : get refs c.name ≡ Some c.old = some.1 in
          let old : x ≡ c.old = cc in
          let f : anc c.old c.new = elim (forward (b, sym e)) [ inl z ↦ absurd (some.0 z) | inr a ↦ a ] in
          (c.new, ap (get (insert refs c.name c.new)) e ∙ insert_same nat_list_cmp_total bytes_same refs c.name c.new, subst (λ z. anc z c.new) (sym old) f)
      go (inr e) = (x, insert_other nat_list_cmp_total bytes_same refs c.name c.new (branch b) e ∙ h, self x)

  turn_sets : (fmt : Format) (at : Lookup) (refs : Refs) (named : List RefName) (js : List Judged) (rs : List (Option Reason)) → JudgesInTurn refs named js rs → list_all is_none rs ≡ true
      → AllByRecursion (λ j. JudgedOk fmt at anc j.command) js → Descends anc refs (with_refs (map new_value js) refs)
  turn_sets fmt at refs named [] [] h e ok = descends_same refs
  turn_sets fmt at refs named (j ∷ js) (None ∷ rs) h e ok =
      descends_trans refs (insert refs j.command.name j.command.new) (with_refs (map new_value js) (insert refs j.command.name j.command.new))
      (one_set refs j.command h.0.1.1.0.0 ok.0.forward)
      (turn_sets fmt at (insert refs j.command.name j.command.new) (j.command.name ∷ named) js rs h.1 e ok.1)
  turn_sets fmt at refs named (j ∷ js) (Some r ∷ rs) h e ok = absurd (cc)
  turn_sets fmt at refs named [] (r ∷ rs) h e ok = absurd h
  turn_sets fmt at refs named (j ∷ js) [] h e ok = absurd h

  module _ (fmt : Format) (at : Lookup) where
    all_passing : (js : List Judged) → list_all is_passing js ≡ true → AllByRecursion (PassingOk fmt at anc) js → AllByRecursion (λ j. JudgedOk fmt at anc j.command) js
    all_passing [] e h = tt
    all_passing (j ∷ js) e h = go (is_passing j) refl (λ k. all_passing js k h.1)
      where
        go : (b : Bool) → is_passing j ≡ b → (list_all is_passing js ≡ true → AllByRecursion (λ j. JudgedOk fmt at anc j.command) js) → AllByRecursion (λ j. JudgedOk fmt at anc j.command) (j ∷ js)
        go true p k = (h.0 (is_passing_is j p), k (rw p at e))
        go false p k = absurd (let q = rw p at e in cc)

    values_good : (js : List Judged) → AllByRecursion (λ j. JudgedOk fmt at anc j.command) js → AllByRecursion (λ r. IsGoodValue fmt at r.0 r.1) (map new_value js)
    values_good [] h = tt
    values_good (j ∷ js) h = (h.0.value, values_good js h.1)

    places : (js : List Judged) → AllByRecursion (λ j. JudgedOk fmt at anc j.command) js → AllByRecursion (λ r. IsSharedName fmt r.0) (map new_value js)
    places [] h = tt
    places (j ∷ js) h = (h.0.place, places js h.1)

    -- what an update of an open push does
    pub record UpdateOk (refs : Refs) (atomic : Bool) (ks : List Judged) (cs : List Change) : Type 0 where
      pub good : AllByRecursion (GoodChange fmt at) cs
      pub forward : Forward fmt anc refs cs
      pub rest : list_any is_passing ks ≡ true → CommandsOk fmt at anc atomic ks

    over_rest : (atomic : Bool) (ks : List Judged) → AllOver ks → list_any is_passing ks ≡ true → CommandsOk fmt at anc atomic ks
    over_rest atomic ks h some = absurd (let n : list_any is_passing ks ≡ false = over_any ks h in cc)

    pub update_all : (refs : Refs) (js : List Judged) (rs : List (Option Reason)) (ks : List Judged) (cs : List Change) → CommandsOk fmt at anc true js → UpdatesAll refs js rs ks cs → UpdateOk refs true ks cs
    update_all refs js rs ks cs ok u =
        let good : AllByRecursion (λ j. JudgedOk fmt at anc j.command) js = all_passing js (ok.together refl) ok.each in
        elim (u.1) [
          | inl y ↦ record {
            good = subst (AllByRecursion (GoodChange fmt at)) (sym y.2) (values_good js good, tt);
            forward = sets (map new_value js) y.2 (turn_sets fmt at refs [] js rs u.0 y.0 good) (places js good);
            rest = over_rest true ks (subst AllOver (sym y.1) (accepted_over js));
          }
          | inr n ↦ record {
            good = subst (AllByRecursion (GoodChange fmt at)) (sym n.2) tt;
            forward = stays n.2;
            rest = over_rest true ks (subst AllOver (sym n.1) (refused_over js rs));
          }
        ]

    one_update : (r : Repository) (c : Command) (v : Verdict) (cs : List Change) → JudgedOk fmt at anc c → Updates r.refs c v cs → AllByRecursion (GoodChange fmt at) cs × Forward fmt anc r.refs cs × (v ≢ Passing)
    one_update r c Accepted cs ok u = (subst (AllByRecursion (GoodChange fmt at)) (sym u.1) ((ok.value, tt), tt), sets ((c.name, c.new) ∷ []) u.1 (one_set r.refs c u.0.1.1.0 ok.forward) (ok.place, tt), λ e. absurd (cc))
    one_update r c (Refused q) cs ok u = (subst (AllByRecursion (GoodChange fmt at)) (sym u.1) tt, stays u.1, λ e. absurd (cc))
    one_update r c Passing cs ok u = absurd u

    pub update_next : (r : Repository) (js ks : List Judged) (cs : List Change) → CommandsOk fmt at anc false js → UpdatesNext r js ks cs → UpdateOk r.refs false ks cs
    update_next r js ks cs ok u =
        let all : AllByRecursion (PassingOk fmt at anc) (u.front ++ u.next ∷ u.back) = subst (AllByRecursion (PassingOk fmt at anc)) u.before ok.each in
        let here = all_back (PassingOk fmt at anc) u.front (u.next ∷ u.back) all in
        let one = one_update r u.next.command u.verdict cs (here.0 u.passing) u.update in
        record {
          good = one.0;
          forward = one.1;
          rest = λ _. record {
            each = subst (AllByRecursion (PassingOk fmt at anc)) (sym u.after)
                (all_append (PassingOk fmt at anc) u.front (record { command = u.next.command; verdict = u.verdict } ∷ u.back) (all_front (PassingOk fmt at anc) u.front (u.next ∷ u.back) all) (λ e. absurd (one.2 e), here.1));
            together = λ e. absurd (cc);
          };
        }

-- ---- the objects around an open push

-- more objects at the node
pub push_grows : (fmt : Format) (anc : Id → Id → Type 0) (s t : Objects) (p : OpenPush) → Extends (stored s) (stored t) → Extends (over s p.carried) (over t p.carried) → PushOk fmt anc s p → PushOk fmt anc t p
push_grows fmt anc s t p e f ok = record { carried = ok.carried; commands = go p.stage ok.commands }
  where
    grown : (f g : Lookup) → Extends f g → CommandsOk fmt f anc p.atomic p.commands → CommandsOk fmt g anc p.atomic p.commands
    grown f g e c = record {
      each = all_map (PassingOk fmt f anc) (PassingOk fmt g anc) p.commands (λ j h v. let o = h v in record { value = value_grows fmt f g j.command.name j.command.new e o.value; place = o.place; forward = o.forward }) c.each;
      together = c.together;
    }

    go : (x : Stage) → StageOk fmt anc s p x → StageOk fmt anc t p x
    go Unpacked h = tt
    go Checked h = grown (over s p.carried) (over t p.carried) f h
    go Migrated h = grown (stored s) (stored t) e h
    go Finished h = tt

over_grows_at : (s t c : Option Object) → ((o : Object) → s ≡ Some o → t ≡ Some o) → ((o p : Object) → c ≡ Some o → t ≡ Some p → o ≡ p) → (o : Object) → option_or s c ≡ Some o → option_or t c ≡ Some o
over_grows_at (Some a) t c e u o h = ap (λ z. option_or z c) (e o h)
over_grows_at None None c e u o h = h
over_grows_at None (Some b) c e u o h = ap Some (sym (u o b h refl))

-- an object of one name is one object
pub over_grows : (s t c : Objects) → Extends (stored s) (stored t) → ((x : Id) (o p : Object) → get c x ≡ Some o → get t x ≡ Some p → o ≡ p) → Extends (over s c) (over t c)
over_grows s t c e u = record { each = λ x o h. over_grows_at (get s x) (get t x) (get c x) (e.each x) (u x) o h }

-- a prune that keeps what the push needs
pub push_kept : (fmt : Format) (anc : Id → Id → Type 0) (r : Repository) (t : Objects) (slots : Slots) (k : ℕ) (p : OpenPush) → get slots k ≡ Some p
    → PartlyPruned (IsNeeded fmt r slots) r.objects t → PushOk fmt anc r.objects p → PushOk fmt anc t p
push_kept fmt anc r t slots k p is pruned ok = record { carried = ok.carried; commands = go p.stage ok.commands }
  where
    kept : (z : Id) → IsNeeded fmt r slots z → get t z ≡ get r.objects z
    kept z n = elim (pruned z) [ inl e ↦ e | inr e ↦ absurd (e.0 n) ]

    needed : (j : Judged) → Contains p.commands j → j.verdict ≡ Passing → (z : Id) → Reaches (Links fmt (over r.objects p.carried)) j.command.new z → get t z ≡ get r.objects z
    needed j c v z q = kept z (by_push k p j is c (λ e h. absurd (let a : Passing ≡ Refused e = sym v ∙ h in cc)) q)

    wider : (x y : Id) → Links fmt (stored r.objects) x y → Links fmt (over r.objects p.carried) x y
    wider x y l = record { object = l.object; found = (over_extends r.objects p.carried).each x l.object l.found; link = l.link }

    go : (x : Stage) → StageOk fmt anc r.objects p x → StageOk fmt anc t p x
    go Unpacked h = tt
    go Checked h = record {
      each = all_within (PassingOk fmt (over r.objects p.carried) anc) (PassingOk fmt (over t p.carried) anc) p.commands
          (λ j c f v. let o = f v in record {
            value = value_kept fmt (over r.objects p.carried) (over t p.carried) j.command.name j.command.new (λ z q. ap (λ g. option_or g (get p.carried z)) (needed j c v z q)) o.value;
            place = o.place;
            forward = o.forward;
          }) h.each;
      together = h.together;
    }
    go Migrated h = record {
      each = all_within (PassingOk fmt (stored r.objects) anc) (PassingOk fmt (stored t) anc) p.commands
          (λ j c f v. let o = f v in record {
            value = value_kept fmt (stored r.objects) (stored t) j.command.name j.command.new
                (λ z q. needed j c v z (reaches-steps (Links fmt (stored r.objects)) (Links fmt (over r.objects p.carried)) wider j.command.new z q)) o.value;
            place = o.place;
            forward = o.forward;
          }) h.each;
      together = h.together;
    }
    go Finished h = tt
