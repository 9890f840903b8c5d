-- Commands that all pass, one after another, are changes of refs that may be made at once.
use Rattle.std.proofs.Common.{arith, ◌≡◌, ◌⊎◌, inl, inr, ℕ, Bool, cond, true, false, true≢false, ◌||◌, nat_eq, List, [], ◌∷◌, ◌++◌, map, Option, Some, None, is_some, refl, ap, sym, ◌∙◌, subst}
use Rattle.std.specs.Prelude.{Contains, bytes_eq, codes}
use Rattle.std.specs.List.{starts_with, AllByRecursion}
use Rattle.std.specs.Ordering.{nat_cmp, eq_by_cmp}
use Rattle.std.specs.Cmp.Lexicographic.{slice_cmp}
use Rattle.std.proofs.lemmas.Bool.{and_from, false_from_ne_true, or_cases, or_parts}
use Rattle.std.proofs.lemmas.List.Elements.{All-cons, All-nil, Contains-append_right}
use Rattle.std.proofs.lemmas.Map.Text.{is_eq-slice_cmp}
use Rattle.std.proofs.lemmas.Slice.Eq.{bytes_eq-Decides}
use Rattle.vc_files.specs.FileMap.{FileMap}
use Rattle.vc_object.specs.declared.id.ObjectId.{ObjectId}
use Rattle.vc_push.specs.Push.{CommandText}
use Rattle.vc_push.specs.declared.reason.Reason.{Reason}
use Rattle.vc_refname.specs.RefName.{is_ref_name}
use Rattle.vc_refs.proofs.ChangesLemmas.{named_more, same_maps}
use Rattle.vc_refs.proofs.LayeredLemmas.{refs-loose, refs-packed}
use Rattle.vc_refs.proofs.PathLemmas.{same_path}
use Rattle.vc_refs.proofs.RefusalLemmas.{changes_refused}
use Rattle.vc_refs.specs.Obstacle.{is_held}
use Rattle.vc_refs.specs.Packing.{is_one_of}
use Rattle.vc_refs.specs.RefFault.{BlamesList}
use Rattle.vc_refs.specs.RefMap.{RefMap, IsInRefs, conflicts, is_ref, with_ref}
use Rattle.vc_refs.specs.Refs.{is_taken, loose_refs, packed_at, packed_map, packed_path, refs, IsGoodPackedFile, SpellsRefs}
use Rattle.vc_refs.specs.SetAll.{first_conflicting, with_change, with_changes, AreNamedInRefs, BlamesSetAll, IsFaultOfAll, KeepsAllBut, MayChange, MayChangeAfter, MayChangeAll}
use Rattle.vc_refs.specs.SetAll as changes
use Rattle.vc_refs.specs.declared.changes.RefChange.{RefChange}
use Rattle.vc_refs.specs.declared.changes.SetAllFault.{SetAllFault}
use Rattle.vc_refs.specs.declared.changes.SetAllFault.TheVariants.{At, Whole}
use Rattle.vc_refs.specs.declared.faults.RefFault.{RefFault}
use Rattle.vc_refs.specs.declared.faults.RefFault.TheVariants as fault
use Rattle.vc_push_rules.specs.Session.{SessionText}
use Rattle.vc_push_rules.specs.Steps.{names_of, KeepsUnnamed}
use Rattle.vc_push_rules.specs.Turn.{all_pass, with_new, JudgesInTurn, PassInTurn, TurnNeeds}
use Rattle.vc_push_rules.specs.Verdict.{MayBeSet, is_branch, is_tag, update_reasons}
use Rattle.vc_push_rules.specs.declared.stage.Stage.TheVariants.{Migrated}
use Rattle.vc_session.proofs.TurnLemmas.{set_is}
use Rattle.vc_session.proofs.UpdateLemmas.{in_refs, legal_parts, none_there}
use Rattle.vc_session.specs.SessionFault.{IsRefusedStep, IsRefusedUpdate, from_refs, from_set}
use Rattle.vc_session.specs.Together.{change_of, AreToBeSet}
use Rattle.vc_session.specs.declared.fault.SessionFault.{SessionFault}
use Rattle.vc_session.specs.declared.fault.SessionFault.TheVariants.{Store, Refs, Fault}

-- ---- a legal name
pub legal_ref : (name : List ℕ) → MayBeSet name → is_ref name ≡ true
legal_ref name may = and_from (is_ref_name name) (starts_with nat_eq name (codes "refs/")) (legal_parts name may).1 (in_refs name (is_branch name) refl may.inside)

-- if no earlier one conflicts, none is the first that does
none_conflicting : (earlier : List RefChange) (name : List ℕ) → ((q : List ℕ) → is_one_of q (changes.names_of earlier) ≡ true → conflicts q name ≡ false) → first_conflicting earlier name ≡ None
none_conflicting [] name apart = refl
none_conflicting (e ∷ earlier) name apart =
    ap (λ b. cond b (Some e.name) (first_conflicting earlier name)) (apart e.name (among_first e.name (changes.names_of earlier)))
    ∙ none_conflicting earlier name (λ q among. apart q (among_later q e.name (changes.names_of earlier) among))
  where
    among_first : (q : List ℕ) (names : List (List ℕ)) → is_one_of q (q ∷ names) ≡ true
    among_first q names = ap (λ b. b || is_one_of q names) (is_eq-slice_cmp q q ∙ (bytes_eq-Decides q q).1 refl)

    among_later : (q n : List ℕ) (names : List (List ℕ)) → is_one_of q names ≡ true → is_one_of q (n ∷ names) ≡ true
    among_later q n names among = elim (eq_by_cmp (slice_cmp nat_cmp) q n) as (λ b. (b || is_one_of q names) ≡ true) [ true ↦ refl | false ↦ among ]

-- ---- over these files
module _ (content : FileMap) (good : SpellsRefs content) where
  good_packed : IsGoodPackedFile content
  good_packed bad = good packed_path (inr (refl, bad))

  own_value : (q : List ℕ) → is_taken content q ≡ true → is_some (refs content q) ≡ true
  own_value q taken = ap is_some (refs-loose content q taken) ∙ by (loose_refs content q) refl
    where
      by : (o : Option ObjectId) → loose_refs content q ≡ o → is_some o ≡ true
      by (Some id) is = refl
      by None is = absurd (good q (inl (record { taken = taken; none = is })))

  -- what is held is a ref
  held_value : (q : List ℕ) → is_held content q ≡ true → is_some (refs content q) ≡ true
  held_value q held = by (is_taken content q) refl
    where
      by : (b : Bool) → is_taken content q ≡ b → is_some (refs content q) ≡ true
      by true taken = own_value q taken
      by false free = ap is_some (refs-packed content q free) ∙ sym (ap (λ b. b || is_some (packed_at (packed_map content) q)) free) ∙ held

  -- the refs, as changes that were judged so far would leave them, with the names of their commands
  record Follows (earlier : List RefChange) (m : RefMap) (named : List (List ℕ)) : Type 0 where
    kept : (q : List ℕ) → is_some (refs content q) ≡ true → is_some (m q) ≡ true
    there : (q : List ℕ) → is_one_of q (changes.names_of earlier) ≡ true → is_some (m q) ≡ true
    same : (q : List ℕ) → is_one_of q (changes.names_of earlier) ≡ false → m q ≡ refs content q
    told : (q : List ℕ) → is_one_of q (changes.names_of earlier) ≡ true → Contains named q

  begins : Follows [] (refs content) []
  begins = record { kept = λ q some. some; there = λ q among. absurd (true≢false (sym among)); same = λ q other. refl; told = λ q among. absurd (true≢false (sym among)) }

  module _ (earlier : List RefChange) (m : RefMap) (named : List (List ℕ)) (c : CommandText) (before : Follows earlier m named) (may : MayBeSet c.name) (met : AllByRecursion (TurnNeeds m named c) update_reasons) where
    -- no earlier one has its name
    fresh : is_one_of c.name (changes.names_of earlier) ≡ false
    fresh = false_from_ne_true _ (λ among. by (is_branch c.name) refl among)
      where
        by : (b : Bool) → is_branch c.name ≡ b → is_one_of c.name (changes.names_of earlier) ≡ true → ⊥
        by true branch among = met.1.1.0.1 branch (before.told c.name among)
        by false other among = none_there (m c.name) (before.there c.name among) (met.0 (sym (ap (λ b. b || is_tag c.name) other) ∙ may.inside))

    one : MayChange content earlier (change_of c)
    one = record {
      alone = (
        legal_ref c.name may,
        record {
          free = record { packed = good_packed; none = λ other way. true≢false (sym way.conflict ∙ met.1.0 other (before.kept other (held_value other way.held))) };
          value = record { packed = good_packed; current = sym (before.same c.name fresh) ∙ met.1.1.0.0; good = λ bad. good c.name (inl bad) };
        },
      );
      apart = none_conflicting earlier c.name (λ q among. met.1.0 q (before.there q among));
    }

    abbrev after : RefMap
    after = with_ref m c.name c.new

    after_some : (q : List ℕ) → is_some (m q) ≡ true → is_some (after q) ≡ true
    after_some q some = ap is_some (set_is m c.name c.new q) ∙ elim (bytes_eq q c.name) as (λ b. is_some (cond b (Some c.new) (m q)) ≡ true) [ true ↦ refl | false ↦ some ]

    after_here : (q : List ℕ) → q ≡ c.name → is_some (after q) ≡ true
    after_here q is = ap is_some (set_is m c.name c.new q ∙ ap (λ b. cond b (Some c.new) (m q)) ((bytes_eq-Decides q c.name).1 is))

    -- a name after it is one before it, or its own
    one_more : (q : List ℕ) → is_one_of q (changes.names_of (earlier ++ change_of c ∷ [])) ≡ true → (is_one_of q (changes.names_of earlier) ≡ true) ⊎ (q ≡ c.name)
    one_more q among = elim (or_cases (is_one_of q (changes.names_of earlier)) (eq_by_cmp (slice_cmp nat_cmp) q c.name || false) (sym (named_more earlier (change_of c) q) ∙ among)) [
      | inl old ↦ inl old
      | inr last ↦ elim (or_cases (eq_by_cmp (slice_cmp nat_cmp) q c.name) false last) [ inl is ↦ inr (same_path q c.name is) | inr none ↦ absurd (true≢false (sym none)) ]
    ]

    next : Follows (earlier ++ change_of c ∷ []) after (c.name ∷ named)
    next = record {
      kept = λ q some. after_some q (before.kept q some);
      there = λ q among. elim (one_more q among) [ inl old ↦ after_some q (before.there q old) | inr is ↦ after_here q is ];
      same = λ q other.
          let parts = or_parts (is_one_of q (changes.names_of earlier)) (eq_by_cmp (slice_cmp nat_cmp) q c.name || false) (sym (named_more earlier (change_of c) q) ∙ other) in
          let apart = or_parts (eq_by_cmp (slice_cmp nat_cmp) q c.name) false parts.1 in
          set_is m c.name c.new q ∙ ap (λ b. cond b (Some c.new) (m q)) (sym (is_eq-slice_cmp q c.name) ∙ apart.0) ∙ before.same q parts.0;
      told = λ q among. elim (one_more q among) [
        | inl old ↦ Contains-append_right (c.name ∷ []) named q (before.told q old)
        | inr is ↦ subst (λ (n : List ℕ). Contains (c.name ∷ named) n) (sym is) (0, omega arith, refl)
      ];
    }

  each : (cs : List CommandText) (founds : List (Option Reason)) (earlier : List RefChange) (m : RefMap) (named : List (List ℕ)) → Follows earlier m named → AreToBeSet cs → JudgesInTurn m named cs founds → all_pass founds ≡ true
      → MayChangeAfter content earlier (map change_of cs)
  each [] founds earlier m named before may judged passed = tt
  each (c ∷ cs) [] earlier m named before may judged passed = absurd judged
  each (c ∷ cs) (None ∷ founds) earlier m named before may judged passed =
      (one earlier m named c before may.0 judged.0, each cs founds (earlier ++ change_of c ∷ []) (with_ref m c.name c.new) (c.name ∷ named) (next earlier m named c before may.0 judged.0) may.1 judged.1 passed)
  each (c ∷ cs) (Some r ∷ founds) earlier m named before may judged passed = absurd (true≢false (sym passed))

  pub may_set_all : (cs : List CommandText) → AreToBeSet cs → PassInTurn (refs content) cs → MayChangeAll content (map change_of cs)
  may_set_all cs may pass = record { packed = good_packed; each = each cs pass.0 [] (refs content) [] begins may pass.1 pass.2 }

-- ---- what refuses them
fault_alone : (content : FileMap) (e : SetAllFault) → IsFaultOfAll e → IsRefusedUpdate content (from_set e)
fault_alone content (At place e) h = absurd h
fault_alone content (Whole (fault.Stale current)) h = absurd h
fault_alone content (Whole (fault.Conflict other)) h = absurd h
fault_alone content (Whole (fault.BadRefFile path)) h = absurd h
fault_alone content (Whole fault.HeadLoop) h = absurd h
fault_alone content (Whole (fault.Fault f)) h = tt

pub set_refused : (content : FileMap) (cs : List CommandText) → SpellsRefs content → AreToBeSet cs → PassInTurn (refs content) cs → (e : SetAllFault) → BlamesSetAll content (map change_of cs) e → IsRefusedUpdate content (from_set e)
set_refused content cs good may pass e blames = fault_alone content e (changes_refused content (map change_of cs) (may_set_all content good cs may pass) e blames)

pub list_refused : (content : FileMap) (e : RefFault) → BlamesList content e → IsRefusedUpdate content (from_refs e)
list_refused content (fault.Stale current) b = b
list_refused content (fault.Conflict other) b = b
list_refused content (fault.BadRefFile path) b = b.bad
list_refused content fault.HeadLoop b = b
list_refused content (fault.Fault f) b = tt

pub refused_update : (content : FileMap) (s : SessionText) (e : SessionFault) → IsRefusedUpdate content e → IsRefusedStep content s Migrated e
refused_update content s (Store fault) h = h
refused_update content s (Refs fault) h = h
refused_update content s (Fault fault) h = tt

-- ---- what they make of the refs
pub named_in_refs : (cs : List CommandText) → AreToBeSet cs → AreNamedInRefs (map change_of cs)
named_in_refs [] may = All-nil (λ (x : RefChange). IsInRefs x.name)
named_in_refs (c ∷ cs) may = All-cons (λ (x : RefChange). IsInRefs x.name) (change_of c) (map change_of cs) (in_refs c.name (is_branch c.name) refl may.0.inside) (named_in_refs cs may.1)

changed_at : (m : RefMap) (c : CommandText) (q : List ℕ) → with_change m (change_of c) q ≡ with_ref m c.name c.new q
unfolding with_change with_ref
changed_at m c q = refl

pub with_new_is : (m : RefMap) (cs : List CommandText) → with_changes m (map change_of cs) ≡ with_new m cs
with_new_is m [] = refl
with_new_is m (c ∷ cs) = ap (λ (f : RefMap). with_changes f (map change_of cs)) (same_maps (with_change m (change_of c)) (with_ref m c.name c.new) (changed_at m c)) ∙ with_new_is (with_ref m c.name c.new) cs

names_are : (cs : List CommandText) → changes.names_of (map change_of cs) ≡ names_of cs
names_are [] = refl
names_are (c ∷ cs) = ap (λ (names : List (List ℕ)). c.name ∷ names) (names_are cs)

pub keeps_unnamed : (cs : List CommandText) (old new : FileMap) → KeepsAllBut (map change_of cs) old new → KeepsUnnamed (names_of cs) old new
keeps_unnamed cs old new keeps = record { only = λ path other beside. keeps.only path (ap (is_one_of path) (names_are cs) ∙ other) beside; outside = keeps.outside }
