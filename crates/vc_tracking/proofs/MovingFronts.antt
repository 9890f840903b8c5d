-- Refs move one after another: what is done so far, and that each front of it is one of all the moves, where what was known is so.
use Rattle.std.proofs.Common.{arith, ◌≡◌, inl, inr, ℕ, Bool, true, false, cond, ◌+◌, codes, List, [], ◌∷◌, ◌++◌, length, take, refl, sym, ap, ◌∙◌, subst}
use Rattle.std.specs.Prelude.{◌≢◌, option_map}
use Rattle.std.specs.FinMap.{get, insert}
use Rattle.std.proofs.lemmas.List.{length-append}
use Rattle.vc_files.specs.FileMap.{FileMap, SameOutside}
use Rattle.vc_format.specs.Git.{id_of_bytes}
use Rattle.vc_model.specs.Clone.{Moves}
use Rattle.vc_model.specs.Object.{Id, Objects, stored}
use Rattle.vc_model.specs.Refs.{RefName, Refs}
use Rattle.vc_model.specs.Repository.{Change, Repository, changed, changed_all}
use Rattle.vc_model.specs.Repository.Change.{SetRefs}
use Rattle.vc_object.specs.declared.id.ObjectId.{ObjectId}
use Rattle.vc_refs.specs.RefMap.{RefMap}
use Rattle.vc_refs.specs.Refs.{refs}
use Rattle.vc_rules.proofs.RefLemmas.{set_rel}
use Rattle.vc_rules.proofs.SoundLemmas.{objects_sound}
use Rattle.vc_rules.specs.Git.{git}
use Rattle.vc_rules.specs.OpenPushes.{HoldsContent}
use Rattle.vc_push_rules.proofs.FrameLemmas.{objects-same}
use Rattle.vc_object_map.specs.Store.{object_path, objects}
use Rattle.vc_tracking.specs.Moving.{AreFrontMoved, AreMoved, IsMove, MayMove, MovesBy, MovesSome, Told, machine_refs, rule_of}
use Rattle.vc_tracking.specs.declared.moving.Followed.{Followed}
use Rattle.vc_tracking.proofs.MovingDecisions.{Decided}
use Rattle.vc_tracking.proofs.MovingRules.{decided_move, may_moves, moves_may}
use Rattle.vc_tracking.proofs.SetRefs.{moves_set, set_append, set_objects}

abbrev Rule : Type 1
Rule = Refs → RefName → Id → RefName → Type 0

-- ---- changes in order
changed_append : (cs ds : List Change) (r : Repository) → changed_all (cs ++ ds) r ≡ changed_all ds (changed_all cs r)
changed_append [] ds r = refl
changed_append (c ∷ cs) ds r = changed_append cs ds (changed c r)

moves_append : (may : Rule) (rs : List (RefName × Id)) (r : Repository) (cs : List Change) (qs : List (RefName × Id)) (ds : List Change)
    → Moves may r.refs rs cs → Moves may (changed_all cs r).refs qs ds → Moves may r.refs (rs ++ qs) (cs ++ ds)
moves_append may [] r cs qs ds e second = subst (λ (c : List Change). Moves may (changed_all c r).refs qs ds → Moves may r.refs qs (c ++ ds)) (sym e) (λ m. m) second
moves_append may (x ∷ xs) r cs qs ds (inl (t, more, m, e, rest)) second =
    let later : Moves may (changed_all more (changed (SetRefs ((t, x.1) ∷ [])) r)).refs qs ds = subst (λ (c : List Change). Moves may (changed_all c r).refs qs ds) e second in
    inl (t, more ++ ds, m, ap (λ (c : List Change). c ++ ds) e, moves_append may xs (changed (SetRefs ((t, x.1) ∷ [])) r) more qs ds rest later)
moves_append may (x ∷ xs) r cs qs ds (inr (none, rest)) second = inr (none, moves_append may xs r cs qs ds rest second)

-- where each move is decided, there are all of them
pub all_moves : (may : Rule) → ((rs : Refs) (n : RefName) (x : Id) → Decided ((t : RefName) × may rs n x t)) → (qs : List (RefName × Id)) (rs : Refs) → (cs : List Change) × Moves may rs qs cs
all_moves may decide [] rs = ([], refl)
all_moves may decide (q ∷ qs) rs = elim (decide rs q.0 q.1) as (λ _. (cs : List Change) × Moves may rs (q ∷ qs) cs) [
  | inl (t, m) ↦ let rest = all_moves may decide qs (insert rs t q.1) in (SetRefs ((t, q.1) ∷ []) ∷ rest.0, inl (t, rest.0, m, refl, rest.1))
  | inr none ↦ let rest = all_moves may decide qs rs in (rest.0, inr (none, rest.1))
]

take_front : (cs ds : List Change) → take (length cs) (cs ++ ds) ≡ cs
take_front [] ds = take_none ds
  where
    take_none : (ds : List Change) → take 0 ds ≡ []
    take_none [] = refl
    take_none (d ∷ ds) = refl
take_front (c ∷ cs) ds = ap (λ (l : List Change). c ∷ l) (take_front cs ds)

pub machine_append : (a b : List Told) → machine_refs (a ++ b) ≡ machine_refs a ++ machine_refs b
machine_append [] b = refl
machine_append (t ∷ a) b = ap (λ l. (t.0, t.1.0) ∷ l) (machine_append a b)

-- ---- over files
objects_kept : (old new : FileMap) → SameOutside (codes "refs/") old new → (id : ObjectId) → objects new id ≡ objects old id
objects_kept old new outside id = objects-same old new id (outside.at (object_path id.0) refl)

-- what moves where one thing is known moves where more is
pub move_where : {P Q : Type 0} → (P → Q) → (followed : Followed) (old new : FileMap) (name : List ℕ) (id : ObjectId) (moved : Bool) → IsMove Q followed old new name id moved → IsMove P followed old new name id moved
move_where so followed old new name id true (to, may, set) = (to, (λ p. may (so p)), set)
move_where so followed old new name id false (none, same) = ((λ p. none (so p)), same)

module _ (followed : Followed) where
  -- moves, and further ones
  joined : (front more : List Told) (r : Repository) (cs ds : List Change) → MovesBy followed r front cs → Moves (rule_of followed git (stored r.objects)) (changed_all cs r).refs (machine_refs more) ds → MovesBy followed r (front ++ more) (cs ++ ds)
  joined front more r cs ds moves then = subst (λ (l : List (RefName × Id)). Moves (rule_of followed git (stored r.objects)) r.refs l (cs ++ ds)) (sym (machine_append front more))
      (moves_append (rule_of followed git (stored r.objects)) (machine_refs front) r cs (machine_refs more) ds moves then)

  module _ (known : Type 0) (content : FileMap) (r : Repository) (p : HoldsContent content r) where
    -- one ref
    pub one_moved : (new : FileMap) → SameOutside (codes "refs/") content new → (name : List ℕ) (id : ObjectId) (moved : Bool) → IsMove known followed content new name id moved → AreMoved known followed ((name, id) ∷ []) r new (cond moved 1 0)
    one_moved new outside name id true (to, may, set) = record {
      changes = SetRefs ((to, id.0) ∷ []) ∷ [];
      set = (tt, tt);
      moves = λ so. inl (to, [], may_moves (objects content) r.objects p.objects_are (objects_sound content) (refs content) r.refs p.refs_are followed name id to (may so), refl, refl);
      content = record {
        objects_are = λ x. objects_kept content new outside (id_of_bytes x) ∙ p.objects_are x;
        refs_are = λ n. ap (λ (k : RefMap). k n) set ∙ set_rel (refs content) r.refs p.refs_are to id n;
      };
      counted = refl;
    }
    one_moved new outside name id false (none, same) = record {
      changes = [];
      set = tt;
      moves = λ so. inr ((λ h. none so h.0 (moves_may (objects content) r.objects p.objects_are (objects_sound content) (refs content) r.refs p.refs_are followed name id.0 h.0 h.1)), refl);
      content = subst (λ (m : FileMap). HoldsContent m r) (sym same) p;
      counted = refl;
    }

    pub none_moved : AreMoved known followed [] r content 0
    none_moved = record { changes = []; set = tt; moves = λ so. refl; content = p; counted = refl }

  -- those before, and more
  pub more_moved : (known : Type 0) (front more : List Told) (r : Repository) (mid new : FileMap) (n k : ℕ) (before : AreMoved known followed front r mid n) → AreMoved known followed more (changed_all before.changes r) new k → AreMoved known followed (front ++ more) r new (n + k)
  more_moved known front more r mid new n k before then =
      let kept = set_objects before.changes r before.set in
      let later : known → Moves (rule_of followed git (stored r.objects)) (changed_all before.changes r).refs (machine_refs more) then.changes =
      λ so. subst (λ (s : Objects). Moves (rule_of followed git (stored s)) (changed_all before.changes r).refs (machine_refs more) then.changes) kept (then.moves so) in
      record {
        changes = before.changes ++ then.changes;
        set = set_append before.changes then.changes before.set then.set;
        moves = λ so. joined front more r before.changes then.changes (before.moves so) (later so);
        content = subst (HoldsContent new) (sym (changed_append before.changes then.changes r)) then.content;
        counted = omega (arith, before.counted, then.counted, length-append before.changes then.changes);
      }

  -- what is left to move
  rest_moves : (content : FileMap) (r : Repository) → HoldsContent content r → (rs : Refs) (qs : List (RefName × Id)) → (cs : List Change) × Moves (rule_of followed git (stored r.objects)) rs qs cs
  rest_moves content r p rs qs =
      all_moves (rule_of followed git (stored r.objects)) (λ refs n x. decided_move (objects content) r.objects p.objects_are (objects_sound content) (λ q. option_map id_of_bytes (get refs q)) refs (λ q. refl) followed n x) qs rs

  -- a front of what is told is a front of all the moves
  module _ (known : Type 0) (front more : List Told) (content : FileMap) (r : Repository) (p : HoldsContent content r) (now : FileMap) (n : ℕ) (before : AreMoved known followed front r now n) where
    abbrev rest : (cs : List Change) × Moves (rule_of followed git (stored r.objects)) (changed_all before.changes r).refs (machine_refs more) cs
    rest = rest_moves content r p (changed_all before.changes r).refs (machine_refs more)

    pub front_moved : AreFrontMoved known followed (front ++ more) r now
    front_moved = record {
      changes = before.changes ++ rest.0;
      done = length before.changes;
      set = set_append before.changes rest.0 before.set (moves_set (rule_of followed git (stored r.objects)) (machine_refs more) (changed_all before.changes r).refs rest.0 rest.1);
      moves = λ so. joined front more r before.changes rest.0 (before.moves so) rest.1;
      content = subst (λ (cs : List Change). HoldsContent now (changed_all cs r)) (sym (take_front before.changes rest.0)) before.content;
    }

    -- where some moved
    pub some_moved : n ≢ 0 → known → MovesSome followed (front ++ more) r
    some_moved moved so = (before.changes ++ rest.0, joined front more r before.changes rest.0 (before.moves so) rest.1, λ none. moved (before.counted ∙ empty before.changes rest.0 none))
      where
        empty : (cs ds : List Change) → cs ++ ds ≡ [] → length cs ≡ 0
        empty [] ds e = refl
        empty (c ∷ cs) ds e = absurd (cc e)

  -- where the next one may move
  pub next_moves : (known : Type 0) (front more : List Told) (name : List ℕ) (id : ObjectId) (content : FileMap) (r : Repository) (p : HoldsContent content r) (now : FileMap) (n : ℕ) (before : AreMoved known followed front r now n) (to : List ℕ)
      → known → MayMove followed now name id to → MovesSome followed (front ++ (name, id) ∷ more) r
  next_moves known front more name id content r p now n before to so may =
      let rule = rule_of followed git (stored r.objects) in
      let after = changed_all before.changes r in
      let kept = set_objects before.changes r before.set in
      let q = before.content in
      let moves : rule_of followed git (stored after.objects) after.refs name id.0 to = may_moves (objects now) after.objects q.objects_are (objects_sound now) (refs now) after.refs q.refs_are followed name id to may in
      let next : rule after.refs name id.0 to = subst (λ (s : Objects). rule_of followed git (stored s) after.refs name id.0 to) kept moves in
      let later = rest_moves content r p (insert after.refs to id.0) (machine_refs more) in
      let ds = SetRefs ((to, id.0) ∷ []) ∷ later.0 in
      (before.changes ++ ds, joined front ((name, id) ∷ more) r before.changes ds (before.moves so) (inl (to, later.0, next, refl, later.1)), some before.changes later.0 (SetRefs ((to, id.0) ∷ [])))
    where
      some : (cs ds : List Change) (c : Change) → cs ++ c ∷ ds ≢ []
      some [] ds c e = cc e
      some (d ∷ cs) ds c e = cc e
