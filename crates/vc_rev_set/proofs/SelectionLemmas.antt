-- What terms select, and what the walk of a set tells.
use Rattle.std.proofs.Common.{◌≡◌, ℕ, ◌+◌, ◌<◌, inl, inr, ⊎_elim, List, [], ◌∷◌, ◌++◌, IsSome, length, drop, take, get_or, map, Result, Ok, Err, IfOk, IfErr, OnOk, MatchResult, Contains, ◌↔◌, refl, sym, ap, subst, arith}
use Rattle.std.proofs.lemmas.List.{drop_more, take_more, get_or_default}
use Rattle.std.proofs.lemmas.List.Elements.{Contains-append_left, Contains-append_right, Contains-append_cases, Contains-push, Contains-push_cases}
use Rattle.vc_history.specs.HistoryFault.{IsTold as IsBaseTold}
use Rattle.vc_object_map.specs.History.{IsCommonAncestor, IsSelected}
use Rattle.vc_history.specs.declared.fault.HistoryFault.{HistoryFault}
use Rattle.vc_history.specs.declared.fault.HistoryFault.TheVariants as bases
use Rattle.vc_object_map.specs.Graph.{ReachedFrom, IsClosedUnder, itself}
use Rattle.vc_object_map.proofs.FaultLemmas.{IsMet-more}
use Rattle.vc_object_map.proofs.WalkLemmas.{Reaches-trans}
use Rattle.vc_object.specs.ObjectMap.{ObjectMap, parents_in}
use Rattle.vc_object.specs.declared.id.ObjectId.{ObjectId}
use Rattle.vc_rev.specs.Answer.{Continues, IsTold, IsAnswered}
use Rattle.vc_rev_set.specs.Selection.{Selection, CommitRead, CommitGives, BothGive, Makes, TermAsks, TermGives, TermsAsk, TermsGive, SetGives, commit_at, first_of, second_of, joined, nth_of, selection, AreCommon, ArePairsWalked, IsExcludedBy, IsMetBy, IsMetByPairs, IsOfWalk, IsSelectedBy, IsWalked}
use Rattle.vc_rev.specs.Meaning.{PeelsTo, RevGives}
use Rattle.vc_expression.specs.Grammar.{RevText}
use Rattle.vc_rev.specs.Question.{Question}
use Rattle.vc_expression.specs.SetGrammar.{TermText, Include, Exclude, Parents, ExcludeParents, Only, Since, Range, Symmetric}
use Rattle.vc_expression.specs.SetViews.{term_view}
use Rattle.vc_rev.specs.Source.{Source}
use Rattle.vc_rev.specs.WalkFault.{of_history}
use Rattle.vc_rev.specs.declared.refusal.Refusal.{Refusal}
use Rattle.vc_rev.specs.declared.refusal.RevFault.{RevFault}
use Rattle.vc_rev.specs.declared.refusal.RevFault.TheVariants as faults
use Rattle.vc_rev.specs.declared.refusal.SourceFault.{SourceFault}
use Rattle.vc_rev.specs.declared.refusal.SourceFault.TheVariants as sources
use Rattle.vc_expression.specs.declared.token.Term.{Term}
use Rattle.vc_rev.proofs.AnswerLemmas.{told_same}
use Rattle.vc_rev.proofs.SameAnswer.{AtMostOne, after_one, equal_one, peels_one, rev_one}

-- what a term tells is told of all terms
pub terms_told : (s : Source) (Blames : Question → SourceFault → Type 0) (xs : List Term) (i : ℕ) (d : Term) (before : Selection) (e : RevFault) → i < length xs → ((question : Question) → TermsAsk s (map term_view (drop i xs)) question → TermsAsk s (map term_view xs) question)
    → ((answer : Result Selection Refusal) → TermsGive s (map term_view (drop i xs)) before answer → SetGives s (map term_view xs) answer) → IsTold Blames (TermAsks s (term_view (get_or xs i d))) (TermGives s (term_view (get_or xs i d))) e → IsTold Blames (TermsAsk s (map term_view xs)) (SetGives s (map term_view xs)) e
terms_told s Blames xs i d before e lt asked go t =
    told_same Blames (TermAsks s (term_view (get_or xs i d))) (TermsAsk s (map term_view xs)) (TermGives s (term_view (get_or xs i d))) (SetGives s (map term_view xs)) e
    (λ question h. asked question (subst (λ (ts : List Term). TermsAsk s (map term_view ts) question) (sym (drop_more xs i d lt)) (inl h)))
    (λ r h. go (Err r) (subst (λ (ts : List Term). TermsGive s (map term_view ts) before (Err r)) (sym (drop_more xs i d lt)) (Err r, h, refl))) t

-- one term more
pub terms_more : (s : Source) (xs : List Term) (i : ℕ) (d : Term) (before after more : Selection) (answer : Result Selection Refusal) → i < length xs → TermGives s (term_view (get_or xs i d)) (Ok more) → after ≡ joined before more → TermsGive s (map term_view (drop (i + 1) xs)) after answer → TermsGive s (map term_view (drop i xs)) before answer
terms_more s xs i d before after more answer lt gives is h =
    subst (λ (ts : List Term). TermsGive s (map term_view ts) before answer) (sym (drop_more xs i d lt))
    (Ok more, gives, subst (λ (chosen : Selection). TermsGive s (map term_view (drop (i + 1) xs)) chosen answer) is h)

-- what is asked behind a term is asked from it on
pub terms_asked : (s : Source) (xs : List Term) (i : ℕ) (d : Term) (more : Selection) (question : Question) → i < length xs → TermGives s (term_view (get_or xs i d)) (Ok more) → TermsAsk s (map term_view (drop (i + 1) xs)) question → TermsAsk s (map term_view (drop i xs)) question
terms_asked s xs i d more question lt gives h = subst (λ (ts : List Term). TermsAsk s (map term_view ts) question) (sym (drop_more xs i d lt)) (inr (more, gives, h))

-- Terms have one selection at most.
module _ (s : Source) where
  commit_one : (rev : RevText) → AtMostOne (CommitGives s rev)
  commit_one rev = after_one (RevGives s rev) _ (rev_one s rev) (λ x. after_one (PeelsTo s x) (λ found a. a ≡ commit_at found) (peels_one s x) (λ found. equal_one (commit_at found)))

  makes_one : (make : CommitRead → Selection) (rev : RevText) → AtMostOne (Makes s make rev)
  makes_one make rev = after_one (CommitGives s rev) (λ c a. a ≡ Ok (make c)) (commit_one rev) (λ c. equal_one (Ok (make c)))

  both_one : (first second : RevText) → AtMostOne (BothGive s first second)
  both_one first second =
      after_one (CommitGives s first) _ (commit_one first) (λ a. after_one (CommitGives s second) (λ b r. r ≡ Ok (a.0, b.0)) (commit_one second) (λ b. equal_one (Ok (a.0, b.0))))

  ends_one : (make : ObjectId × ObjectId → Selection) (first second : RevText) → AtMostOne (λ (answer : Result Selection Refusal). (x : Result (ObjectId × ObjectId) Refusal) × BothGive s first second x × Continues (λ ends r. r ≡ Ok (make ends)) answer x)
  ends_one make first second = after_one (BothGive s first second) (λ ends r. r ≡ Ok (make ends)) (both_one first second) (λ ends. equal_one (Ok (make ends)))

  term_one : (term : TermText) → AtMostOne (TermGives s term)
  term_one (Include rev) = makes_one (λ c. selection (c.0 ∷ []) [] []) rev
  term_one (Exclude rev) = makes_one (λ c. selection [] (c.0 ∷ []) []) rev
  term_one (Parents rev) = makes_one (λ c. selection c.1 [] []) rev
  term_one (ExcludeParents rev) = makes_one (λ c. selection [] c.1 []) rev
  term_one (Only rev) = makes_one (λ c. selection (c.0 ∷ []) c.1 []) rev
  term_one (Since rev n) = ends_one (λ ends. selection (ends.1 ∷ []) (ends.0 ∷ []) []) (nth_of rev n) rev
  term_one (Range ends) = ends_one (λ e. selection (e.1 ∷ []) (e.0 ∷ []) []) (first_of ends) (second_of ends)
  term_one (Symmetric ends) = ends_one (λ e. selection (e.0 ∷ e.1 ∷ []) [] (e ∷ [])) (first_of ends) (second_of ends)

  pub terms_one : (terms : List TermText) (before : Selection) → AtMostOne (TermsGive s terms before)
  terms_one [] before = equal_one (Ok before)
  terms_one (term ∷ others) before = after_one (TermGives s term) (λ more. TermsGive s others (joined before more)) (term_one term) (λ more. terms_one others (joined before more))

  -- terms that are refused have no selection
  pub not_both : (terms : List TermText) (chosen : Selection) (refusal : Refusal) → SetGives s terms (Ok chosen) → SetGives s terms (Err refusal) → ⊥
  not_both terms chosen refusal p q = let e = terms_one terms (selection [] [] []) (Ok chosen) (Err refusal) p q in cc e

  pub told_one : (Blames : Question → SourceFault → Type 0) (terms : List TermText) (refusal : Refusal) (e : RevFault) → SetGives s terms (Err refusal) → IsTold Blames (TermsAsk s terms) (SetGives s terms) e → IsAnswered (let r : Result Selection Refusal = Err refusal in r) e
  told_one Blames terms refusal (faults.Refused r) p t = terms_one terms (selection [] [] []) (Err refusal) (Err r) p t
  told_one Blames terms refusal (faults.Missing id) p t = t
  told_one Blames terms refusal (faults.NotACommit id) p t = t
  told_one Blames terms refusal (faults.Source fault) p t = tt

-- two facts of an answer, put together
pub ok_both : {A E : Type 0} (r : Result A E) (P : A → Type 0) (Q : Type 0) (R : A → Type 0) → ((a : A) → P a → Q → R a) → IfOk r P → OnOk r Q → IfOk r R
ok_both (Ok a) P Q R go p q = go a p q
ok_both (Err e) P Q R go p q = tt

-- The walk of a set.
module _ (objects : ObjectMap) where
  -- what a walk over some of the names tells is told of a walk over all
  pub walk_told : (IsDamaged : ObjectId → Type 0) (roots : List ObjectId) (Meets : ObjectId → Type 0) → ((c : ObjectId) → ReachedFrom (parents_in objects) roots c → Meets c) → (e : HistoryFault) → IsBaseTold objects IsDamaged roots e → IsOfWalk objects Meets IsDamaged (of_history e)
  walk_told IsDamaged roots Meets within (bases.Missing id) t = (within id t.0, t.1)
  walk_told IsDamaged roots Meets within (bases.NotACommit id) t = (within id t.0, t.1)
  walk_told IsDamaged roots Meets within (bases.Store fault) t = IsMet-more (ReachedFrom (parents_in objects) roots) Meets IsDamaged within fault t

  pub walk_more : (IsDamaged Some_of All : ObjectId → Type 0) → ((c : ObjectId) → Some_of c → All c) → (e : RevFault) → IsOfWalk objects Some_of IsDamaged e → IsOfWalk objects All IsDamaged e
  walk_more IsDamaged Some_of All within (faults.Refused r) t = t
  walk_more IsDamaged Some_of All within (faults.Missing id) t = (within id t.0, t.1)
  walk_more IsDamaged Some_of All within (faults.NotACommit id) t = (within id t.0, t.1)
  walk_more IsDamaged Some_of All within (faults.Source (sources.Store fault)) t = IsMet-more Some_of All IsDamaged within fault t
  walk_more IsDamaged Some_of All within (faults.Source (sources.BadRefFile path)) t = t
  walk_more IsDamaged Some_of All within (faults.Source sources.HeadLoop) t = t
  walk_more IsDamaged Some_of All within (faults.Source (sources.BadIndex place)) t = t

  -- of no pairs
  pub no_pairs_common : (found : List ObjectId) → found ≡ [] → AreCommon objects [] found
  no_pairs_common found none c = (λ h. absurd (omega (arith, h.1, ap length none)), λ h. absurd (omega (arith, h.1.1)))

  pub no_pairs_walked : ArePairsWalked objects []
  no_pairs_walked c h = absurd (omega (arith, h.1.1))

  -- one pair more
  module _ (pairs : List (ObjectId × ObjectId)) (i : ℕ) (d : ObjectId × ObjectId) (lt : i < length pairs) where
    pair_cases : (P : ObjectId × ObjectId → Type 0) → ((pair : ObjectId × ObjectId) → Contains (take i pairs) pair → P pair) → P (get_or pairs i d) → (pair : ObjectId × ObjectId) → Contains (take (i + 1) pairs) pair → P pair
    pair_cases P before last pair at =
        ⊎_elim (before pair) (λ is. subst P is last)
        (Contains-push_cases (take i pairs) (get_or pairs i d) pair (subst (λ l. Contains l pair) (take_more pairs i d lt) at))

    pair_before : (pair : ObjectId × ObjectId) → Contains (take i pairs) pair → Contains (take (i + 1) pairs) pair
    pair_before pair at = subst (λ l. Contains l pair) (sym (take_more pairs i d lt)) (Contains-append_left (take i pairs) (get_or pairs i d ∷ []) pair at)

    pair_last : Contains (take (i + 1) pairs) (get_or pairs i d)
    pair_last = subst (λ l. Contains l (get_or pairs i d)) (sym (take_more pairs i d lt)) (Contains-push (take i pairs) (get_or pairs i d))

    pub common_more : (found more now : List ObjectId) → AreCommon objects (take i pairs) found → ((c : ObjectId) → Contains more c ↔ IsCommonAncestor (parents_in objects) (get_or pairs i d).0 (get_or pairs i d).1 c) → now ≡ found ++ more → AreCommon objects (take (i + 1) pairs) now
    common_more found more now before last is c = (
      λ h.
          ⊎_elim (λ old. let o = (before c).0 old in (o.0, pair_before o.0 o.1, o.2))
          (λ new. (get_or pairs i d, pair_last, (last c).0 new))
          (Contains-append_cases found more c (subst (λ l. Contains l c) is h)),
      λ h.
          subst (λ l. Contains l c) (sym is)
          (pair_cases (λ pair. IsCommonAncestor (parents_in objects) pair.0 pair.1 c → Contains (found ++ more) c)
          (λ pair at common. Contains-append_left found more c ((before c).1 (pair, at, common)))
          (λ common. Contains-append_right found more c ((last c).1 common))
          h.0 h.1 h.2),
    )

    pub walked_more : ArePairsWalked objects (take i pairs) → IsClosedUnder (parents_in objects) ((get_or pairs i d).0 ∷ (get_or pairs i d).1 ∷ []) → ArePairsWalked objects (take (i + 1) pairs)
    walked_more before last c h =
        pair_cases (λ pair. ReachedFrom (parents_in objects) (pair.0 ∷ pair.1 ∷ []) c → IsSome (parents_in objects c))
        (λ pair at reached. before c (pair, at, reached)) (λ reached. last c reached) h.0 h.1 h.2

    pub pair_met : (c : ObjectId) → ReachedFrom (parents_in objects) ((get_or pairs i d).0 ∷ (get_or pairs i d).1 ∷ []) c → IsMetByPairs objects pairs c
    pair_met c h = (get_or pairs i d, (i, lt, get_or_default pairs i (get_or pairs i d) d lt), h)

  -- the common ancestors of pairs are excluded with what is excluded by itself
  module _ (chosen : Selection) (common all : List ObjectId) (are : AreCommon objects chosen.apart common) (is : all ≡ common ++ chosen.exclude) where
    excluded_same : (c : ObjectId) → ReachedFrom (parents_in objects) all c ↔ IsExcludedBy objects chosen c
    excluded_same c = (
      λ h.
          ⊎_elim (λ shared. let o = (are h.root).0 shared in inr (o.0, o.1, (Reaches-trans (parents_in objects) o.2.0 h.reaches, Reaches-trans (parents_in objects) o.2.1 h.reaches)))
          (λ root. inl (record { root = h.root; is_root = root; reaches = h.reaches }))
          (Contains-append_cases common chosen.exclude h.root (subst (λ l. Contains l h.root) is h.is_root)),
      λ h.
          ⊎_elim (λ r. record { root = r.root; is_root = subst (λ l. Contains l r.root) (sym is) (Contains-append_right common chosen.exclude r.root r.is_root); reaches = r.reaches })
          (λ shared. record { root = c; is_root = subst (λ l. Contains l c) (sym is) (Contains-append_left common chosen.exclude c ((are c).1 shared)); reaches = itself })
          h,
    )

    pub selected_same : (c : ObjectId) → IsSelected (parents_in objects) chosen.include all c ↔ IsSelectedBy objects chosen c
    selected_same c = (λ h. (h.0, λ out. h.1 ((excluded_same c).1 out)), λ h. (h.0, λ out. h.1 ((excluded_same c).0 out)))

    -- the walk from the included and all excluded commits meets no more
    pub met_same : (c : ObjectId) → ReachedFrom (parents_in objects) (chosen.include ++ all) c → IsMetBy objects chosen c
    met_same c h =
        ⊎_elim (λ root. inl (record { root = h.root; is_root = Contains-append_left chosen.include chosen.exclude h.root root; reaches = h.reaches }))
        (λ root.
        ⊎_elim (λ shared. let o = (are h.root).0 shared in inr (o.0, o.1, record { root = o.0.0; is_root = (0, omega arith, refl); reaches = Reaches-trans (parents_in objects) o.2.0 h.reaches }))
        (λ own. inl (record { root = h.root; is_root = Contains-append_right chosen.include chosen.exclude h.root own; reaches = h.reaches }))
        (Contains-append_cases common chosen.exclude h.root (subst (λ l. Contains l h.root) is root)))
        (Contains-append_cases chosen.include all h.root h.is_root)

    -- and no less
    pub walked_all : IsClosedUnder (parents_in objects) (chosen.include ++ all) → ArePairsWalked objects chosen.apart → IsWalked objects chosen
    walked_all closed pairs c (inr met) = pairs c met
    walked_all closed pairs c (inl h) =
        ⊎_elim (λ root. closed c (record { root = h.root; is_root = Contains-append_left chosen.include all h.root root; reaches = h.reaches }))
        (λ root.
        closed c (record {
          root = h.root;
          is_root = Contains-append_right chosen.include all h.root (subst (λ l. Contains l h.root) (sym is) (Contains-append_right common chosen.exclude h.root root));
          reaches = h.reaches;
        }))
        (Contains-append_cases chosen.include chosen.exclude h.root h.is_root)
