use Rattle.std.proofs.Common.{arith, rules, refl, ◌∙◌, ◌≡◌, ◌+◌, length}
use Rattle.std.proofs.lemmas.Slice.{pushed}
use Rattle.records.specs.Record.{Inner, inner_plaintext, type_code}
use Rattle.records.proofs.InnerLemmas.{length-plaintext}
use Rattle.records.proofs.WriteLemmas.{sealed_behind}
use Rattle.records.proofs.key.RecordKey.append.Goals as goal

pub returns : goal.returns
returns c =
    let content = c.args.content.now in
    let inner : Inner = record { content_type = c.args.content_type; content = content; padding = c.args.padding } in
    let size = length-plaintext content (type_code c.args.content_type) c.args.padding in
    let n : length content + c.args.padding + 1 + 16 ≡ length (inner_plaintext inner) + 16 = omega (arith, size) in
    let from : c.len-start.result + 5 ≡ length c.args.out.now.items + 5 = search rules in
    let all : c.append_unsealed.new.out.len ≡ length c.as_mut_slice.result.now = search rules in
    record {
      items = pushed c.as_ref.result.now refl c.in-Ok-extend_from_slice.is c.extend_from_slice.ensures.items
          ∙ sealed_behind c.args.self.now c.args.number _ _ _ inner c.args.out.now.items c.header_of-header.result c.as_mut_slice.result.now
          c.seal_message-tag.new.message c.as_ref.result.now n c.header_of-header.ensures
          (c.as_mut_slice.ensures.value ∙ c.append_unsealed.ensures.appended.items) from all c.seal_message-tag.ensures.ciphertext
          (c.as_ref.ensures ∙ c.seal_message-tag.ensures.tag) _;
      len = search rules;
      capacity = search rules;
    }
