-- The machine's answers to the writing of an object.
use Rattle.std.proofs.Common.{◌≡◌, ◌⊎◌, inl, inr, ℕ, Bool, true, false, cond, List, [], Option, Some, None, refl, sym, ap, ◌∙◌, subst}
use Rattle.std.specs.Prelude.{option_map, unwrap_or, bytes_eq}
use Rattle.std.specs.FinMap.{get, insert, empty, get-empty}
use Rattle.std.specs.Option.{option_or}
use Rattle.std.specs.Ordering.{nat_cmp}
use Rattle.std.specs.Cmp.Lexicographic.{slice_cmp}
use Rattle.std.proofs.lemmas.Slice.Eq.{bytes_eq-Decides}
use Rattle.vc_files.specs.FileMap.{FileMap}
use Rattle.vc_format.specs.Git.{id_of_bytes, git_name}
use Rattle.vc_model.specs.Object.{Object, Objects, Id}
use Rattle.vc_model.specs.Repository.{Repository, AllAdded, with_objects}
use Rattle.vc_model.specs.Node.Answer.{Did}
use Rattle.vc_model.specs.Node.Reply.{Made}
use Rattle.vc_model.specs.Clone.{only_object, quietly, with_object as added}
use Rattle.vc_model.specs.Clone.Task.{Write}
use Rattle.vc_object.specs.Decoding.{StoredObject, stored_object}
use Rattle.vc_object.specs.Object.{object_name, IsObject}
use Rattle.vc_object.specs.ObjectFault.{BodyFault}
use Rattle.vc_object.specs.ObjectMap.{ObjectMap}
use Rattle.vc_object.specs.declared.id.ObjectId.{ObjectId}
use Rattle.vc_object.specs.declared.kind.Kind.{Kind as ObjectKind}
use Rattle.vc_object_map.specs.Store.{with_object}
use Rattle.vc_object_map.specs.declared.faults.StoreFault.TheVariants as store
use Rattle.vc_local.specs.declared.fault.NodeFault.{NodeFault}
use Rattle.vc_local.specs.declared.fault.NodeFault.TheVariants.{Store, Ref, Missing, NotACommit, BadPath, PathConflict, BadIndex, WrongEntry, Down}
use Rattle.vc_local.specs.Blames.{BlamesWrite}
use Rattle.vc_local.specs.Shown.{Shown, with_objects_shown}
use Rattle.vc_rules.specs.Git.{git, machine_object, stored_of}
use Rattle.vc_values.specs.Faults.{object_number}
use Rattle.vc_local.specs.Machine.{Spells, Follows, IsBadFile, fault_answer, failure_of}
use Rattle.vc_local.proofs.AnswerLemmas.{declines, faults}
use Rattle.vc_rules.proofs.CarriedLemmas.{kind_back}
use Rattle.vc_rules.proofs.MapLemmas.{get-put}

kept_inside : (found : Option Object) (o : Object) → unwrap_or (option_map stored_of found) (stored_of o) ≡ stored_of (unwrap_or found o)
kept_inside None o = refl
kept_inside (Some p) o = refl

pub added_shows : (objects : ObjectMap) (s : Objects) → ((x : Id) → objects (id_of_bytes x) ≡ option_map stored_of (get s x)) → (k : Id) (o : Object)
    → (x : Id) → with_object objects (id_of_bytes k) (stored_of o) (id_of_bytes x) ≡ option_map stored_of (get (added s k o) x)
unfolding with_object
added_shows objects s rel k o x =
    by (bytes_eq x k) ∙ ap (option_map stored_of) (sym (get-put s k x (unwrap_or (get s k) o)))
  where
    by : (b : Bool) → cond b (Some (unwrap_or (objects (id_of_bytes k)) (stored_of o))) (objects (id_of_bytes x)) ≡ option_map stored_of (cond b (Some (unwrap_or (get s k) o)) (get s x))
    by true = ap (λ f. Some (unwrap_or f (stored_of o))) (rel k) ∙ ap Some (kept_inside (get s k) o)
    by false = rel x

pub added_all : (s : Objects) (k : Id) (o : Object) → AllAdded s (insert empty k o) (added s k o)
added_all s k o = record { each = λ x. get-put s k x (unwrap_or (get s k) o) ∙ by x (bytes_eq x k) refl ∙ ap (option_or (get s x)) (sym (get-put empty k x o ∙ ap (cond (bytes_eq x k) (Some o)) (get-empty (slice_cmp nat_cmp) x))) }
  where
    there : (found : Option Object) → Some (unwrap_or found o) ≡ option_or found (Some o)
    there None = refl
    there (Some p) = refl

    none : (found : Option Object) → found ≡ option_or found None
    none None = refl
    none (Some p) = refl

    by : (x : Id) (b : Bool) → bytes_eq x k ≡ b → cond b (Some (unwrap_or (get s k) o)) (get s x) ≡ option_or (get s x) (cond b (Some o) None)
    by x true e = let same : x ≡ k = (bytes_eq-Decides x k).0 e in ap (λ f. Some (unwrap_or f o)) (ap (get s) (sym same)) ∙ there (get s x)
    by x false e = none (get s x)

-- a repository with one object more
pub spells_added : (s : Shown) (r : Repository) (k : Id) (o : Object) → Spells s r → Spells (with_objects_shown s (with_object s.objects (id_of_bytes k) (stored_of o))) (with_objects r (added r.objects k o))
spells_added s r k o p = record {
  objects = added_shows s.objects r.objects p.objects k o;
  refs = p.refs;
  head = p.head;
  head_shown = p.head_shown;
  head_is = p.head_is;
  map = p.map;
  map_sound = p.map_sound;
  map_shown = p.map_shown;
  index = p.index;
}

pub write_done : (kind : ObjectKind) (body : List ℕ) (id : ObjectId) (old new : Shown) → IsObject kind body → id ≡ object_name kind body → new ≡ with_objects_shown old (with_object old.objects id (stored_object kind body))
    → Follows (Write (machine_object kind body)) (Did (Made id.0)) old new
write_done kind body id old new legal name is = record {
  goes = λ awaited r spells.
      let o = machine_object kind body in
      let k = git_name o in
      let same : stored_of o ≡ stored_object kind body = ap (λ (k : ObjectKind). stored_object k body) (kind_back kind) in
      let named : k ≡ id.0 = ap (λ (j : ObjectKind). (object_name j body).0) (kind_back kind) ∙ ap (λ (i : ObjectId). i.0) (sym name) in
      let shows : with_objects_shown old (with_object old.objects (id_of_bytes k) (stored_of o)) ≡ new =
      ap (λ (x : Id). with_objects_shown old (with_object old.objects (id_of_bytes x) (stored_of o))) named ∙ ap (λ (q : StoredObject). with_objects_shown old (with_object old.objects id q)) same ∙ sym is in (
        with_objects r (added r.objects k o),
        subst (λ (s : Shown). Spells s (with_objects r (added r.objects k o))) shows (spells_added old r k o spells),
        (
          quietly awaited (record { objects = only_object git o; changes = [] }) (Made k),
          (subst (λ (j : ObjectKind). IsObject j body) (sym (kind_back kind)) legal, refl),
          (added r.objects k o, added_all r.objects k o, refl),
          refl,
          refl,
          ap Made (sym named),
        ),
      );
}

pub write_failed : (content : FileMap) (kind : ObjectKind) (body : List ℕ) (e : NodeFault) (s : Shown) → BlamesWrite content kind body e → IsBadFile content e ⊎ Follows (Write (machine_object kind body)) (fault_answer e) s s
write_failed content kind body (Store (store.BadObject f)) s blames =
    inr (declines (Write (machine_object kind body)) (object_number f) s (λ r spells. (f, subst (λ (j : ObjectKind). BodyFault j body f) (sym (kind_back kind)) blames, refl)))
write_failed content kind body (Store (store.Absent id)) s blames = absurd blames
write_failed content kind body (Store (store.Damaged id)) s blames = inl blames
write_failed content kind body (Store (store.Fault f)) s blames = inr (faults (Write (machine_object kind body)) (failure_of f) s)
write_failed content kind body (Ref e) s blames = absurd blames
write_failed content kind body (Missing id) s blames = absurd blames
write_failed content kind body (NotACommit id) s blames = absurd blames
write_failed content kind body BadPath s blames = absurd blames
write_failed content kind body PathConflict s blames = absurd blames
write_failed content kind body (BadIndex place) s blames = absurd blames
write_failed content kind body (WrongEntry at) s blames = absurd blames
write_failed content kind body Down s blames = absurd blames
