-- Texts that are sent one after another.
use Rattle.std.proofs.Common.{◌≡◌, ℕ, List, ◌++◌, ◌∙◌, Option}
use Rattle.sw_edge.proofs.CountLaws.{HasCause-before}
use Rattle.sw_edge.proofs.ToldLaws.{Appends-trans, Appends-AppendsPrefix, AppendsPrefix-more}
use Rattle.sw_edge.specs.Answers.{Sends}
use Rattle.sw_edge.specs.Told.{Appends}
use Rattle.sw_edge.specs.declared.answers.Sent.{Sent}
use Rattle.sw_edge.specs.declared.answers.Sent.TheVariants.{All, Failed}
use Rattle.p4switch_run.specs.Tell.{IsSaid}

sends_next : (a b c : Option (List ℕ)) (xs ys : List ℕ) (answer : Sent) → Appends a b xs → Sends b c answer ys → Sends a c answer (xs ++ ys)
sends_next a b c xs ys All first second = Appends-trans a b c xs ys first second
sends_next a b c xs ys Failed first second = Appends-AppendsPrefix a b c xs ys first second

-- a second text behind one that was sent whole
pub said_next : (a b c : Option (List ℕ)) (xs ys : List ℕ) (f g h : ℕ) (answer : Sent) → IsSaid a b f g All xs → IsSaid b c g h answer ys → IsSaid a c f h answer (xs ++ ys)
said_next a b c xs ys f g h answer first second = record {
  sends = sends_next a b c xs ys answer first.sends second.sends;
  failed = HasCause-before f g h (answer ≡ Failed) (first.no_fault (λ e. absurd (cc e))) second.failed;
  no_fault = λ not. second.no_fault not ∙ first.no_fault (λ e. absurd (cc e));
}

-- a text that broke off, and one behind it that was not begun
pub said_cut : (a b : Option (List ℕ)) (xs ys : List ℕ) (f g : ℕ) → IsSaid a b f g Failed xs → IsSaid a b f g Failed (xs ++ ys)
said_cut a b xs ys f g said = record { sends = AppendsPrefix-more a b xs ys said.sends; failed = said.failed; no_fault = said.no_fault }
