use Rattle.std.proofs.Common.{◌≡◌, ◌∙◌, ◌++◌, List, ap, sym, subst, arith}
use Rattle.std.specs.Prelude.{string_bytes}
use Rattle.asl_base_protocol.specs.declared.item.Item.{Item}
use Rattle.asl_base_protocol.specs.Standing.{IsAfter}
use Rattle.asl_base_protocol.specs.declared.reader.Reader.{Reader}
use Rattle.asl_lsp.specs.declared.phase.Phase.TheVariants.{Uninitialized}
use Rattle.asl_lsp_stream.proofs.Telling.{told-all, told-append, told-more}
use Rattle.asl_lsp_stream.proofs.service.Service.take.Goals as goal

pub loop-item-preserved : goal.loop-item-preserved
loop-item-preserved c =
    let one = c.in_ok-put_item.ensures in
    record {
      reader = c.loop-item.invariant.reader;
      told = told-more c.args.self.now.server c.loop-item.self.server c.put_item.new.server c.deref-item-items.result.now c.loop-item.item-index c.item-item.result (string_bytes c.loop-item.out) one.0 (string_bytes c.put_item.new.out)
          c.loop-item-test.true c.item-item.is c.loop-item.invariant.told one.1 one.2;
    }

pub returns : goal.returns
returns c input sent h =
    let on = c.in_ok-feed.ensures.ok input h.items h.after in
    let items = c.deref-item-items.result.now in
    let same : items ≡ on.more = c.deref-item-items.ensures.value ∙ on.items_are ∙ ap (λ (z : List Item). z ++ on.more) c.new-items.ensures.items in
    record {
      items = h.items ++ on.more;
      after = subst (λ (r : Reader). IsAfter (input ++ c.args.bytes.now) (h.items ++ on.more) r) (sym c.loop-item.invariant.reader) on.after;
      told = told-append Uninitialized c.args.self.now.server c.loop-item.self.server h.items on.more sent (string_bytes c.loop-item.out) h.told
          (told-all c.args.self.now.server c.loop-item.self.server items on.more c.loop-item.item-index (string_bytes c.loop-item.out) (omega (arith, c.loop-item-test.false, c.loop-item.auto.item-index-end)) same c.loop-item.invariant.told);
    }
