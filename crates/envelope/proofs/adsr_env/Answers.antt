-- `envelope::adsr_env` meets its contract. Assumes nothing.
use Rattle.std.proofs.Common.{sym, ◌∙◌, rules}
use Rattle.envelope.proofs.Staging.{by_attack, by_decay, by_sustain, by_release}
use Rattle.envelope.proofs.adsr_env.Goals as goal

pub returns-in-Attack : goal.returns-in-Attack
returns-in-Attack c = c.attack.ensures ∙ by_attack _ _ _ (sym c.in-Attack.is ∙ c.requires)

pub returns-in-Decay : goal.returns-in-Decay
returns-in-Decay c = c.decay.ensures ∙ by_decay _ _ _ (sym c.in-Decay.is ∙ c.requires)

pub returns-in-Sustain : goal.returns-in-Sustain
returns-in-Sustain c = by_sustain _ _ _ (sym c.in-Sustain.is ∙ c.requires)

pub returns-in-Release : goal.returns-in-Release
returns-in-Release c = c.release.ensures ∙ by_release _ _ _ (sym c.in-Release.is ∙ c.requires)
