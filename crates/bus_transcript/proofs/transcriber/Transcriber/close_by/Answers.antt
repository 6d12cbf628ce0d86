use Rattle.std.proofs.Common.{◌≡◌, ◌∙◌, ap}
use Rattle.std.specs.Prelude.{is_some}
use Rattle.bus_transcript.specs.Processes.{process_of, process_after}
use Rattle.bus_transcript.specs.Rows.{TranscriberValue, name_of, account_parts, departed_if, with_account, closed_by}
use Rattle.bus_transcript.proofs.OnOks.{on_ok}
use Rattle.bus_transcript.proofs.transcriber.Transcriber.close_by.Goals as goal

pub returns : goal.returns
unfolding closed_by
returns c =
    let n = c.args.connection.now in
    let s = c.args.summary.now in
    let t : TranscriberValue = c.args.self.now in
    let aborts : c.is_some-aborts.result ≡ is_some s.abort = c.is_some-aborts.ensures in
    let name = c.name_of-name.ensures in
    let found : c.of.result ≡ process_of t.processes (name_of n s) = c.of.ensures
    ∙ (λ i. process_of (c.self.view_is i).processes (name i)) in
    let process : c.process_after-process.result
    ≡ process_after n.reselected (is_some s.abort) (process_of t.processes (name_of n s)) (name_of n s) =
    c.process_after-process.ensures ∙ (λ i. process_after n.reselected (aborts i) (found i) (name i)) in
    let items : c.replace-items.result.items ≡ t.items = ap (λ v. v.items) c.replace-items.ensures.value
    ∙ (λ i. (c.self.view_is i).items) in
    let account : c.in_ok-account.account ≡ account_parts n
    (process_after n.reselected (is_some s.abort) (process_of t.processes (name_of n s)) (name_of n s))
    c.args.parts.items t.items = c.in_ok-account.ensures
    ∙ (λ i. account_parts n (process i) c.args.parts.items (items i)) in
    let whole : c.depart_if.new.account ≡ departed_if c.args.free
    (account_parts n (process_after n.reselected (is_some s.abort) (process_of t.processes (name_of n s)) (name_of n s))
    c.args.parts.items t.items) s = c.in_ok-depart_if.ensures ∙ (λ i. departed_if c.args.free (account i) s) in
    on_ok c.keep.result (λ h. h ∙ (λ i. with_account (c.self.view_is i) n.reselected (aborts i) (whole i)))
    c.keep.ensures
