mod MixedTraces
