mod GatheredLaws
mod GroupLaws
mod MergeLaws
mod MergedGroupLaws
mod MergingLaws
mod PairLaws
mod TextLaws
