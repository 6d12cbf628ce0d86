use Rattle.std.proofs.Common.{ap, arith}
use Rattle.scenario.specs.Value.{ScenarioValue}
use Rattle.initiator_books.specs.scsi_device.specs.Itself.{ItselfValue}
use Rattle.initiator.specs.Negotiations.{NegotiationsValue}
use Rattle.initiator.specs.Transfers.{TransfersValue}
use Rattle.initiator.proofs.host.Host.of_line.Goals as goal

pub returns-clause-trace : goal.returns-clause-trace
returns-clause-trace c = λ line. record {
  line = line;
  itself_dev = ap (λ (v : ItselfValue). v.dev) c.in_ok-itself.ensures.exact;
  intent_dev = c.in_ok-intent.ensures.named;
  intent_retries = omega (arith, c.in_ok-intent.ensures.tries, c.requires.few);
  negotiations_dev = ap (λ (v : NegotiationsValue). v.dev) c.new-7.ensures.exact;
  transfers_dev = ap (λ (v : TransfersValue). v.dev) c.in_ok-transfers.ensures.exact;
  itself_is = c.in_ok-itself.ensures.trace;
  intent_is = c.in_ok-intent.ensures.trace;
  negotiations_are = c.new-7.ensures.trace c.args.scenario.now
      (ap (λ (v : ScenarioValue). v.version) c.scenario.view_is);
  speech_is = λ n o. c.new-8.ensures;
  transfers_are = c.in_ok-transfers.ensures.trace;
  received_is = λ u. c.in_ok-received.ensures.trace;
  endings_are = c.in_ok-endings.ensures.trace c.args.def.dev;
  bytes_are = c.in_ok-bytes.ensures;
}
