-- An expression that is read is in the grammar, one in the grammar is read, and a text that goes wrong is none.
use Rattle.std.proofs.Common.{◌≡◌, ◌⊎◌, Result, Ok, Err, IfOk, IfErr, MatchResult, length, arith, inl, inr, ℕ, List, [], ◌∷◌, ◌++◌, true, codes, refl, sym, ap, subst, ◌∙◌, append_assoc, true≢false}
use Rattle.std.proofs.lemmas.List.{append-nil}
use Rattle.vc_refname.specs.declared.fault.NameFault.TheVariants as rules
use Rattle.vc_expression.specs.Base.{IsBase, is_stop, name_of, after_name}
use Rattle.vc_expression.specs.Steps.{step_at}
use Rattle.vc_expression.specs.Seen.{Other, Fault}
use Rattle.vc_expression.specs.Grammar.{IsStep, RevText, ExprText, Object, InTree, InIndex, IsRev, IsExpr, IsSteps, IsPlainPath}
use Rattle.vc_expression.specs.Faults.{RevRead, ReadsRev, ReadsExpr, BadRev, BadExpr, IsBadPath, IsBadAt, ExprError}
use Rattle.vc_expression.specs.Outcome.{Outcome, Read, Bad, IsPlace}
use Rattle.vc_expression.specs.declared.token.Step.{Step}
use Rattle.vc_expression.specs.declared.token.Step.TheVariants as steps
use Rattle.vc_expression.specs.declared.fault.ParseFault.{ParseFault}
use Rattle.vc_expression.specs.declared.fault.ParseFault.TheVariants as errors
use Rattle.vc_expression.proofs.NameLemmas.{name_parts, Stops, base_again}
use Rattle.vc_expression.proofs.StepLemmas.{Ends}
use Rattle.vc_expression.proofs.ReadLemmas.{NoStep, reads_front, reads_again, reads_same}

pub rev_front : (text : List ℕ) (rev : RevText) (rest : List ℕ) → RevRead text rev rest → (a : List ℕ) × IsRev a rev × (text ≡ a ++ rest)
rev_front text rev rest r =
    let f = reads_front (after_name text) rev.steps rest r.steps in (
      rev.base ++ f.0,
      (f.0, r.is_base, f.1, refl),
      sym (name_parts text) ∙ ap (λ n. n ++ after_name text) (sym r.base) ∙ ap (λ t. rev.base ++ t) f.2 ∙ sym (append_assoc rev.base f.0 rest),
    )

-- what is read is in the grammar
pub expr_from_read : (text : List ℕ) (expr : ExprText) → ReadsExpr text expr → IsExpr text expr
expr_from_read text (Object rev) r = let f = rev_front text rev [] r in subst (λ (t : List ℕ). IsRev t rev) (sym (f.2 ∙ append-nil f.0)) f.1
expr_from_read text (InTree rev path) r = rev_front text rev (58 ∷ path) r
expr_from_read text (InIndex path) r = r

no_step : (text : List ℕ) → step_at text ≡ Other → NoStep text
no_step text e s rest f = cc (sym e ∙ f)

pub no_step_fault : (text : List ℕ) → step_at text ≡ Fault → NoStep text
no_step_fault text e s rest f = cc (sym e ∙ f)

same_rev : (a b : RevText) → a.base ≡ b.base → a.steps ≡ b.steps → a ≡ b
same_rev a b e f = let both : (a.base, a.steps) ≡ (b.base, b.steps) = cc in ap (λ (p : List ℕ × List Step). record { base = p.0; steps = p.1 }) both

pub rev_same : (text : List ℕ) (rev other : RevText) (r q : List ℕ) → RevRead text rev r → RevRead text other q → (rev ≡ other) × (r ≡ q)
rev_same text rev other r q x y =
    let both = reads_same (after_name text) rev.steps other.steps r q x.steps y.steps (no_step r x.other) (no_step q y.other) in
    let base : rev.base ≡ other.base = x.base ∙ sym y.base in (same_rev rev other base both.0, both.1)

-- no expression but one for the index begins with a colon
pub no_base : (text : List ℕ) → IsBase [] → ⊥
no_base text (inl h) = cc h
no_base text (inr h) = true≢false (h.1 rules.EdgeSlash)

colon_no_rev : (text path : List ℕ) (rev : RevText) (rest : List ℕ) → text ≡ 58 ∷ path → RevRead text rev rest → ⊥
colon_no_rev text path rev rest e r =
    let none : rev.base ≡ [] = r.base ∙ ap name_of e in no_base text (subst IsBase none r.is_base)

-- what may follow a base and its steps
pub record Tail (text : List ℕ) : Type 0 where
  pub ends : Ends text
  pub stops : Stops text
  pub other : step_at text ≡ Other

pub tail_none : Tail []
tail_none = record { ends = tt; stops = inl refl; other = refl }

tail_colon : (path : List ℕ) → Tail (58 ∷ path)
tail_colon path = record { ends = (refl, refl, refl); stops = inr refl; other = refl }

step_stops : (a : List ℕ) (s : Step) (rest : List ℕ) → IsStep a s → is_stop (a ++ rest) ≡ true
step_stops a (steps.Parent n) rest i = rw i.1 refl
step_stops a (steps.Ancestor n) rest i = rw i.1 refl
step_stops a steps.Peel rest i = rw i refl
step_stops a (steps.PeelTo kind) rest i = rw i refl

pub steps_stop : (a : List ℕ) (ss : List Step) (rest : List ℕ) → IsSteps a ss → Stops rest → Stops (a ++ rest)
steps_stop a [] rest i s = rw i s
steps_stop a (t ∷ ts) rest i s = inr (rw (i.4, append_assoc) (step_stops i.0 t (i.1 ++ rest) i.2))

-- a base and steps that are spelled are read
pub rev_again : (front : List ℕ) (rev : RevText) (rest : List ℕ) → IsRev front rev → Tail rest → RevRead (front ++ rest) rev rest
rev_again front rev rest i t =
    let text : front ++ rest ≡ rev.base ++ (i.0 ++ rest) = ap (λ f. f ++ rest) i.3 ∙ append_assoc rev.base i.0 rest in
    let both = base_again rev.base (i.0 ++ rest) i.1 (steps_stop i.0 rev.steps rest i.2 t.stops) in record {
      base = sym (ap name_of text ∙ both.0);
      is_base = i.1;
      steps = rw (text, both.1) (reads_again i.0 rev.steps rest i.2 t.ends);
      other = t.other;
    }

pub expr_again : (text : List ℕ) (expr : ExprText) → IsExpr text expr → ReadsExpr text expr
expr_again text (Object rev) i = subst (λ (t : List ℕ). RevRead t rev []) (append-nil text) (rev_again text rev [] i tail_none)
expr_again text (InTree rev path) i = rw i.2 (rev_again i.0 rev (58 ∷ path) i.1 (tail_colon path))
expr_again text (InIndex path) i = i

index_same : (text p q : List ℕ) → ReadsExpr text (InIndex p) → ReadsExpr text (InIndex q) → p ≡ q
index_same text p q (inl x) (inl y) = let e : codes ":0:" ++ p ≡ codes ":0:" ++ q = sym x ∙ y in cc e
index_same text p q (inl x) (inr y) = let e : 58 ∷ 48 ∷ 58 ∷ p ≡ 58 ∷ q = sym x ∙ y.0 in let f : q ≡ 48 ∷ 58 ∷ p = cc e in let s = y.1.stage0 in absurd (true≢false (rw f at s))
index_same text p q (inr x) (inl y) = let e : 58 ∷ 48 ∷ 58 ∷ q ≡ 58 ∷ p = sym y ∙ x.0 in let f : p ≡ 48 ∷ 58 ∷ q = cc e in let s = x.1.stage0 in absurd (true≢false (rw f at s))
index_same text p q (inr x) (inr y) = let e : 58 ∷ p ≡ 58 ∷ q = sym x.0 ∙ y.0 in cc e

index_colon : (text path : List ℕ) → ReadsExpr text (InIndex path) → (p : List ℕ) × (text ≡ 58 ∷ p)
index_colon text path (inl x) = (48 ∷ 58 ∷ path, x)
index_colon text path (inr x) = (path, x.0)

-- a text is one expression at most
pub expr_same : (text : List ℕ) (e f : ExprText) → ReadsExpr text e → ReadsExpr text f → e ≡ f
expr_same text (Object a) (Object b) x y = ap Object (rev_same text a b [] [] x y).0
expr_same text (Object a) (InTree b p) x y = let h = (rev_same text a b [] (58 ∷ p) x y).1 in absurd (cc h)
expr_same text (Object a) (InIndex p) x y = let c = index_colon text p y in absurd (colon_no_rev text c.0 a [] c.1 x)
expr_same text (InTree a p) (Object b) x y = let h = (rev_same text a b (58 ∷ p) [] x y).1 in absurd (cc h)
expr_same text (InTree a p) (InTree b q) x y = let h = rev_same text a b (58 ∷ p) (58 ∷ q) x y in let r = h.0 in let s = h.1 in let t : p ≡ q = cc s in cc (r, t)
expr_same text (InTree a p) (InIndex q) x y = let c = index_colon text q y in absurd (colon_no_rev text c.0 a (58 ∷ p) c.1 x)
expr_same text (InIndex p) (Object b) x y = let c = index_colon text p x in absurd (colon_no_rev text c.0 b [] c.1 y)
expr_same text (InIndex p) (InTree b q) x y = let c = index_colon text p x in absurd (colon_no_rev text c.0 b (58 ∷ q) c.1 y)
expr_same text (InIndex p) (InIndex q) x y = ap InIndex (index_same text p q x y)

pub bad_rev_none : (text rest : List ℕ) (rev : RevText) (r : List ℕ) → RevRead text rev r → BadRev text rest → ⊥
bad_rev_none text rest rev r x (inl h) = h.1 (subst IsBase x.base x.is_base)
bad_rev_none text rest rev r x (inr h) =
    let both = reads_same (after_name text) rev.steps h.1.0 r rest x.steps h.1.1 (no_step r x.other) (no_step_fault rest h.1.2) in
    let clash : Other ≡ Fault = sym x.other ∙ ap step_at both.1 ∙ h.1.2 in cc clash

-- a text goes wrong in one place at most
pub bad_rev_same : (text r q : List ℕ) → BadRev text r → BadRev text q → r ≡ q
bad_rev_same text r q (inl x) (inl y) = x.0 ∙ sym y.0
bad_rev_same text r q (inl x) (inr y) = absurd (x.1 y.0)
bad_rev_same text r q (inr x) (inl y) = absurd (y.1 x.0)
bad_rev_same text r q (inr x) (inr y) = (reads_same (after_name text) x.1.0 y.1.0 r q x.1.1 y.1.1 (no_step_fault r x.1.2) (no_step_fault q y.1.2)).1

-- a base and its steps are read in one way
pub reads_rev_same : (text : List ℕ) (o p : Outcome RevText) → ReadsRev text o → ReadsRev text p → o ≡ p
reads_rev_same text (Read a r) (Read b q) x y = let both = rev_same text a b r q x y in let rev = both.0 in let rest = both.1 in cc (rev, rest)
reads_rev_same text (Read a r) (Bad q) x y = absurd (bad_rev_none text q a r x y)
reads_rev_same text (Bad r) (Read b q) x y = absurd (bad_rev_none text r b q y x)
reads_rev_same text (Bad r) (Bad q) x y = ap Bad (bad_rev_same text r q x y)

bad_path_none : (path p : List ℕ) → path ≡ 48 ∷ 58 ∷ p → IsBadPath path → ⊥
bad_path_none path p e (inl h) = let c : [] ≡ 48 ∷ 58 ∷ p = sym h ∙ e in cc c
bad_path_none path p e (inr (inl h)) = true≢false (sym (rw e at h))
bad_path_none path p e (inr (inr (inl h))) = true≢false (sym (rw e at h))
bad_path_none path p e (inr (inr (inr (inl h)))) = true≢false (sym (rw e at h))
bad_path_none path p e (inr (inr (inr (inr h)))) = true≢false (sym (rw e at h))

plain_path_good : (path : List ℕ) → IsPlainPath path → IsBadPath path → ⊥
plain_path_good path g (inl h) = g.some h
plain_path_good path g (inr (inl h)) = true≢false (sym h ∙ g.slash)
plain_path_good path g (inr (inr (inl h))) = true≢false (sym h ∙ g.stage1)
plain_path_good path g (inr (inr (inr (inl h)))) = true≢false (sym h ∙ g.stage2)
plain_path_good path g (inr (inr (inr (inr h)))) = true≢false (sym h ∙ g.stage3)

index_good : (text path p : List ℕ) → text ≡ 58 ∷ path → IsBadPath path → ReadsExpr text (InIndex p) → ⊥
index_good text path p e b (inl x) = let f : 58 ∷ path ≡ 58 ∷ 48 ∷ 58 ∷ p = sym e ∙ x in bad_path_none path p (cc f) b
index_good text path p e b (inr x) = let f : 58 ∷ p ≡ 58 ∷ path = sym x.0 ∙ e in let g : p ≡ path = cc f in plain_path_good path (subst IsPlainPath g x.1) b

-- a text that goes wrong is no expression
pub bad_none : (text rest : List ℕ) (expr : ExprText) → ReadsExpr text expr → BadExpr text rest → ⊥
bad_none text rest (Object rev) x (inl h) = colon_no_rev text h.1.0 rev [] h.1.1 x
bad_none text rest (InTree rev p) x (inl h) = colon_no_rev text h.1.0 rev (58 ∷ p) h.1.1 x
bad_none text rest (InIndex p) x (inl h) = index_good text h.1.0 p h.1.1 h.1.2 x
bad_none text rest (Object rev) x (inr (n, inl h)) = bad_rev_none text rest rev [] x h
bad_none text rest (InTree rev p) x (inr (n, inl h)) = bad_rev_none text rest rev (58 ∷ p) x h
bad_none text rest (InIndex p) x (inr h) = let c = index_colon text p x in h.0 c.0 c.1
bad_none text rest (Object rev) x (inr (n, inr h)) = let e = (rev_same text h.0 rev rest [] h.1 x).1 in h.2 e
bad_none text rest (InTree rev p) x (inr (n, inr h)) = let e = (rev_same text h.0 rev rest (58 ∷ p) h.1 x).1 in h.3 p e

pub error_none : (text : List ℕ) (e : ParseFault) (expr : ExprText) → ExprError text e → ReadsExpr text expr → e ≡ errors.Memory
error_none text (errors.BadSyntax place) expr h x = absurd (bad_none text h.0 expr x h.1)
error_none text errors.Memory expr h x = refl

-- What is left over is left over in one place.
over_same : (text r q : List ℕ) (a b : RevText) → RevRead text a r → RevRead text b q → r ≡ q
over_same text r q a b x y = (rev_same text a b r q x y).1

pub bad_expr_same : (text r q : List ℕ) → BadExpr text r → BadExpr text q → r ≡ q
bad_expr_same text r q (inl x) (inl y) = x.0 ∙ sym y.0
bad_expr_same text r q (inl x) (inr y) = absurd (y.0 x.1.0 x.1.1)
bad_expr_same text r q (inr x) (inl y) = absurd (x.0 y.1.0 y.1.1)
bad_expr_same text r q (inr (n, inl x)) (inr (m, inl y)) = bad_rev_same text r q x y
bad_expr_same text r q (inr (n, inl x)) (inr (m, inr y)) = absurd (bad_rev_none text r y.0 q y.1 x)
bad_expr_same text r q (inr (n, inr x)) (inr (m, inl y)) = absurd (bad_rev_none text q x.0 r x.1 y)
bad_expr_same text r q (inr (n, inr x)) (inr (m, inr y)) = over_same text r q x.0 y.0 x.1 y.1

same_place : (text r q : List ℕ) (a b : ℕ) → r ≡ q → IsPlace text r a → IsPlace text q b → a ≡ b
same_place text r q a b e x y = let l : length r ≡ length q = ap length e in omega (arith, l, x, y)

bad_only : (text : List ℕ) (e : ParseFault) (place : ℕ) → ExprError text e → IsBadAt text place → (e ≡ errors.BadSyntax place) ⊎ (e ≡ errors.Memory)
bad_only text (errors.BadSyntax at) place x y = inl (ap errors.BadSyntax (same_place text x.0 y.0 at place (bad_expr_same text x.0 y.0 x.1 y.1) x.2 y.2))
bad_only text errors.Memory place x y = inr refl

pub result_only : {E : Type 0} (view : E → ExprText) (text : List ℕ) (r : Result E ParseFault) → IfOk r (λ e. ReadsExpr text (view e)) → IfErr r (ExprError text) → (place : ℕ) → IsBadAt text place → MatchResult r (λ _. ⊥) (λ e. (e ≡ errors.BadSyntax place) ⊎ (e ≡ errors.Memory))
result_only view text (Ok e) ok err place b = bad_none text b.0 (view e) ok b.1
result_only view text (Err e) ok err place b = bad_only text e place err b
