-- What a name, a step or an expression gives: a value or a refusal, as a relation of what it is over and its answer.
use Rattle.std.specs.Prelude.{◌≡◌, ◌⊎◌, Result, Ok, Err, IfErr}
use Rattle.vc_object_map.specs.declared.faults.StoreFault.TheVariants as stores
use Rattle.vc_files.specs.declared.faults.Fault.TheVariants as devices
use Rattle.vc_rev.specs.Question.{Question}
use Rattle.vc_rev.specs.Source.{Source as Over}
use Rattle.vc_rev.specs.declared.refusal.Refusal.{Refusal}
use Rattle.vc_rev.specs.declared.refusal.SourceFault.{SourceFault}
use Rattle.vc_rev.specs.declared.refusal.SourceFault.TheVariants as sources
use Rattle.vc_rev.specs.declared.refusal.RevFault.{RevFault}
use Rattle.vc_rev.specs.declared.refusal.RevFault.TheVariants.{Refused, Missing, NotACommit, Source}

-- what comes after an answer: the next one from its value, and nothing behind a refusal
abbrev pub Continues : {A B : Type 0} → (A → Result B Refusal → Type 0) → Result B Refusal → Result A Refusal → Type 0
Continues next answer (Ok a) = next a answer
Continues next answer (Err e) = answer ≡ Err e

-- one answer after another
abbrev pub After : {A B : Type 0} → (Result A Refusal → Type 0) → (A → Result B Refusal → Type 0) → Result B Refusal → Type 0
After {A} First next answer = (first : Result A Refusal) × First first × Continues next answer first

-- want of memory, or a fault that the repository may answer to one of the questions that are asked
abbrev pub IsSourceFault : (Question → SourceFault → Type 0) → (Question → Type 0) → SourceFault → Type 0
IsSourceFault Blames Asks fault = (fault ≡ sources.Store (stores.Fault devices.Memory)) ⊎ ((question : Question) × Asks question × Blames question fault)

-- a refusal is the one that is given; every other fault is the repository's, for a question that had to be asked
abbrev pub IsTold : {A : Type 0} → (Question → SourceFault → Type 0) → (Question → Type 0) → (Result A Refusal → Type 0) → RevFault → Type 0
IsTold Blames Asks Gives (Refused refusal) = Gives (Err refusal)
IsTold Blames Asks Gives (Missing id) = ⊥
IsTold Blames Asks Gives (NotACommit id) = ⊥
IsTold Blames Asks Gives (Source fault) = IsSourceFault Blames Asks fault

-- A call over a repository refuses what its view denotes, given what that asks for: of an honest one each refusal is the one that the
-- view's source gives, and each fault is one that it blames on a question which is asked of it.
abbrev pub Refuses : {View A B : Type 0} → Type 0 → (View → Over) → (View → Question → SourceFault → Type 0) → View → (Over → Question → Type 0) → (Over → Result A Refusal → Type 0) → Result B RevFault → Type 0
Refuses is_honest source blames view Asks Gives result = IfErr result (λ e. is_honest → IsTold (blames view) (Asks (source view)) (Gives (source view)) e)

-- a refusal that takes no repository
abbrev pub IsToldAlone : {A : Type 0} → (Result A Refusal → Type 0) → RevFault → Type 0
IsToldAlone Gives e = IsTold (λ question fault. ⊥) (λ question. ⊥) Gives e

-- no refusal is given
abbrev pub IsNoAnswer : Result (Unit {0}) Refusal → Type 0
IsNoAnswer answer = ⊥

-- the answer is this refusal, unless the repository gave none
abbrev pub IsAnswered : {A : Type 0} → Result A Refusal → RevFault → Type 0
IsAnswered answer (Refused refusal) = answer ≡ Err refusal
IsAnswered answer (Missing id) = ⊥
IsAnswered answer (NotACommit id) = ⊥
IsAnswered answer (Source fault) = Unit {0}
