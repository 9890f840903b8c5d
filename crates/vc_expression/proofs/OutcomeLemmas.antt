-- One reading after another: what it gives, how it goes wrong, and that it gives one outcome at most.
use Rattle.std.proofs.Common.{◌≡◌, ℕ, List, refl, sym, subst, ◌∙◌}
use Rattle.vc_expression.specs.Outcome.{Outcome, Read, Bad, Onward, Then, FaultAt}
use Rattle.vc_expression.specs.declared.fault.ParseFault.{ParseFault}
use Rattle.vc_expression.specs.declared.fault.ParseFault.TheVariants as faults

-- what goes wrong first goes wrong
pub then_bad : {A B : Type 0} (source : List ℕ) (First : Outcome A → Type 0) (next : A → List ℕ → Outcome B → Type 0) (e : ParseFault) → FaultAt source First e → FaultAt source (Then First next) e
then_bad source First next (faults.BadSyntax place) f = (f.0, (Bad f.0, f.1, refl), f.2)
then_bad source First next faults.Memory f = tt

-- what goes wrong next goes wrong
pub next_bad : {A B : Type 0} (source : List ℕ) (First : Outcome A → Type 0) (next : A → List ℕ → Outcome B → Type 0) (a : A) (rest : List ℕ) (e : ParseFault) → First (Read a rest) → FaultAt source (next a rest) e → FaultAt source (Then First next) e
next_bad source First next a rest (faults.BadSyntax place) r f = (f.0, (Read a rest, r, f.1), f.2)
next_bad source First next a rest faults.Memory r f = tt

onward_same : {A B : Type 0} (next : A → List ℕ → Outcome B → Type 0) (f : Outcome A) (o p : Outcome B) → ((a : A) (rest : List ℕ) (x y : Outcome B) → next a rest x → next a rest y → x ≡ y) → Onward next o f → Onward next p f → o ≡ p
onward_same next (Read a rest) o p same n m = same a rest o p n m
onward_same next (Bad rest) o p same n m = n ∙ sym m

pub then_same : {A B : Type 0} (First : Outcome A → Type 0) (next : A → List ℕ → Outcome B → Type 0) (o p : Outcome B) → ((x y : Outcome A) → First x → First y → x ≡ y) → ((a : A) (rest : List ℕ) (x y : Outcome B) → next a rest x → next a rest y → x ≡ y) → Then First next o → Then First next p → o ≡ p
then_same {A} First next o p first after n m =
    onward_same next n.0 o p after n.2 (subst (λ (h : Outcome A). Onward next p h) (first m.0 n.0 m.1 n.1) m.2)
