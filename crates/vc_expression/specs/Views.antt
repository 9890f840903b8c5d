use Rattle.std.specs.Prelude.{◌≡◌, ℕ, List, [], ◌∷◌, ◌++◌, codes, map, Vec}
use denote.Ref.{Bor}
use Rattle.std.specs.declared.alloc.Global.{Global}
use Rattle.vc_expression.specs.Grammar.{RevText, ExprText, IsStep}
use Rattle.vc_expression.specs.Grammar as texts
use Rattle.vc_expression.specs.Outcome.{IsPlace}
use Rattle.vc_expression.specs.declared.token.Step.{Step}
use Rattle.vc_expression.specs.declared.token.StepToken.{StepToken}
use Rattle.vc_expression.specs.declared.token.Rev.{Rev}
use Rattle.vc_expression.specs.declared.token.Expr.{Expr}
use Rattle.vc_expression.specs.declared.token.Expr.TheVariants.{Object, InTree, InIndex}

-- the text ends the source
abbrev pub IsEnd : List ℕ → List ℕ → Type 0
IsEnd text source = (front : List ℕ) × (source ≡ front ++ text)

-- the steps of tokens, without where they lie
abbrev pub steps_of : List StepToken → List Step
steps_of tokens = map (λ token. token.step) tokens

abbrev pub steps_view : Vec StepToken Global → List Step
steps_view tokens = steps_of tokens.items

-- the parts of a path, without where they lie
abbrev pub parts_of : List (Bor (List ℕ)) → List (List ℕ)
parts_of parts = map (λ part. part.now) parts

-- at the front of an end of the source the tokens stand one behind another, each at its place and as the spelling of its step, and
-- what follows them is left
abbrev pub StandsSteps : List ℕ → List ℕ → List StepToken → List ℕ → Type 0
StandsSteps source text [] rest = text ≡ rest
StandsSteps source text (token ∷ tokens) rest =
    (after : List ℕ) × (text ≡ token.text.now ++ after) × IsPlace source text token.start × IsStep token.text.now token.step × StandsSteps source after tokens rest

-- a base and steps, without where they lie
abbrev pub rev_view : Rev → RevText
rev_view rev = record { base = rev.base.text.now; steps = steps_view rev.steps }

-- the base stands at the front of an end of the source, and its steps behind it
abbrev pub StandsRev : List ℕ → List ℕ → Rev → List ℕ → Type 0
StandsRev source text rev rest =
    (after : List ℕ) × (text ≡ rev.base.text.now ++ after) × IsPlace source text rev.base.start × StandsSteps source after rev.steps.items rest

abbrev pub expr_view : Expr → ExprText
expr_view (Object rev) = texts.Object (rev_view rev)
expr_view (InTree rev path) = texts.InTree (rev_view rev) path.text.now
expr_view (InIndex path) = texts.InIndex path.text.now

-- the tokens of an expression stand one behind another in the source, from its front to its end
abbrev pub ExprSlices : List ℕ → Expr → Type 0
ExprSlices source (Object rev) = StandsRev source source rev []
ExprSlices source (InTree rev path) = StandsRev source source rev (codes ":" ++ path.text.now) × IsPlace source path.text.now path.start
ExprSlices source (InIndex path) = IsEnd path.text.now source × IsPlace source path.text.now path.start
